-- What a building begins with: the text's setup, or the one that begins with the values that were kept; and what is said of
-- their file (profile).
use Rattle.std.specs.Prelude.{◌≡◌, ◌≢◌, ◌⊎◌, ℕ, List, Option, Some, None, option_and_then, option_map, unwrap_or, ⊤}
use Rattle.wordlines.specs.Wirings.{Wiring}
use Rattle.ilsource.specs.SourceTrees.{Tree}
use Rattle.ilcompile.specs.Loaded.{Loaded}
use Rattle.ilplan.specs.Plans.{Planned}
use Rattle.livekeep.specs.KeptFiles.{IsKeptFile, KeptState}
use Rattle.livekeep.specs.KeptPlans.{left_out_of}
use Rattle.livekeep.specs.Faults.{IsKeptFault}
use Rattle.livekeep.specs.declared.fault.KeptFault.{KeptFault}
use Rattle.textanswers.specs.Loading.{IsSetup}
use Rattle.textanswers.specs.KeptLoading.{IsKeptSetup}
use Rattle.textanswers.specs.Answered.{IsCheckStop, IsStopOrMemory}
use Rattle.textanswers.specs.Connected.{IsBindingStop, IsConnected}
use Rattle.textanswers.specs.declared.stop.Stop.{Stop}
use Rattle.commandfiles.specs.declared.beginning.Beginning.{Beginning}
use Rattle.commandfiles.specs.declared.beginning.KeptNote.{KeptNote}
use Rattle.commandfiles.specs.declared.beginning.KeptNote.TheVariants.{NoFile, Unused, Used}
use Rattle.commandfiles.specs.declared.reading.DiskFault.{DiskFault}
use Rattle.commandfiles.specs.declared.reading.DiskFault.TheVariants.{Absent}
use Rattle.commandfiles.specs.declared.serving.Unserved.{Unserved}
use Rattle.commandfiles.specs.declared.serving.Unserved.TheVariants.{NotRead, NotWritten, NotPrinted}

-- the text's setup, or the one that begins with these values
abbrev pub IsBegunWith : Wiring → List ℕ → Option KeptState → Loaded → Type 0
IsBegunWith wiring text None setup = IsSetup wiring text setup
IsBegunWith wiring text (Some kept) setup = IsKeptSetup wiring text kept.values setup

-- the source program that the text spells
abbrev pub tree_of : (wiring : Wiring) (text : List ℕ) (kept : Option KeptState) (setup : Loaded)
    → IsBegunWith wiring text kept setup → Tree
tree_of wiring text None setup begun = begun.plan.tree
tree_of wiring text (Some kept) setup begun = begun.plan.tree

-- under the binding
abbrev pub IsBegunUnder : List ℕ → List ℕ → Option KeptState → Loaded → Type 0
IsBegunUnder binding text kept setup =
    (wiring : Wiring) × IsConnected (Some binding) wiring × IsBegunWith wiring text kept setup

-- there is a file, and it is one of these values
abbrev pub IsFileOf : Option (List ℕ) → KeptState → Type 0
IsFileOf None kept = ⊥
IsFileOf (Some bytes) kept = IsKeptFile bytes kept

-- the bytes are no file of values
abbrev pub IsUnusable : List ℕ → Type 0
IsUnusable bytes = (fault : KeptFault) × IsKeptFault bytes fault

-- the values that are used are those of the file; none are, where there is no file, or none that can be used
abbrev pub AreUsed : Option (List ℕ) → Option KeptState → Type 0
AreUsed file (Some kept) = IsFileOf file kept
AreUsed None None = ⊤
AreUsed (Some bytes) None = IsUnusable bytes

-- ---- the text's own setup

-- the text under the binding has this setup
abbrev pub IsSetupUnder : List ℕ → List ℕ → Loaded → Type 0
IsSetupUnder binding text setup = (wiring : Wiring) × IsConnected (Some binding) wiring × IsSetup wiring text setup

-- the binding's fault; or, under the binding, what stands against the text
abbrev pub IsStopUnder : List ℕ → List ℕ → Stop → Type 0
IsStopUnder binding text stop =
    IsBindingStop (Some binding) stop
    ⊎ ((wiring : Wiring) × IsConnected (Some binding) wiring × IsStopOrMemory (IsCheckStop wiring text) stop)

-- ---- what is said of the file

-- it is not used, for what is wrong with its bytes
abbrev pub IsNotedUnused : List ℕ → KeptNote → Type 0
IsNotedUnused bytes NoFile = ⊥
IsNotedUnused bytes (Unused fault) = IsKeptFault bytes fault
IsNotedUnused bytes (Used at left_out) = ⊥

-- its values are used: when they were kept, and those of them with which nothing of the text's own plan begins
abbrev pub IsNotedUsed : KeptState → Planned → KeptNote → Type 0
IsNotedUsed kept own NoFile = ⊥
IsNotedUsed kept own (Unused fault) = ⊥
IsNotedUsed kept own (Used at left_out) = (at ≡ kept.at) × (left_out.items ≡ left_out_of kept.values own)

-- That there is no file is said exactly where there is none; that it is not used, exactly where its bytes are no file of
-- values; and that its values are used, exactly where they are one and are used.
abbrev pub IsNoted : Option (List ℕ) → Option KeptState → Planned → KeptNote → Type 0
IsNoted None None own note = note ≡ NoFile
IsNoted None (Some kept) own note = ⊥
IsNoted (Some bytes) None own note = IsNotedUnused bytes note
IsNoted (Some bytes) (Some kept) own note = IsKeptFile bytes kept × IsNotedUsed kept own note

-- this is said of the file, where the text under the binding has a setup of its own
abbrev pub IsNotedUnder : List ℕ → List ℕ → Option (List ℕ) → Option KeptState → KeptNote → Type 0
IsNotedUnder binding text file kept note =
    (own : Loaded) × IsBegunUnder binding text None own × IsNoted file kept own.plan note

-- so it is, whichever values are used
abbrev pub IsNoteOf : List ℕ → List ℕ → Option (List ℕ) → KeptNote → Type 0
IsNoteOf binding text file note = (kept : Option KeptState) × IsNotedUnder binding text file kept note

-- that is told
abbrev pub IsNoteTold : (KeptNote → Type 0) → List ℕ → List ℕ → Option (List ℕ) → Type 0
IsNoteTold is_told binding text file = (note : KeptNote) × IsNoteOf binding text file note × is_told note

-- ---- the clock, and the disk

-- the moment at which the clock of a building begins: that of the last tick before its values were kept, where their file
-- says it, else 0
abbrev pub begins_at : Option KeptState → ℕ
begins_at kept = unwrap_or (option_map (λ at. at.moment) (option_and_then (λ state. state.at) kept)) 0

-- the file of kept values, where one is named: what the disk gave for it, or nothing where there is no such file
abbrev pub IsKeepRead : (List ℕ → List ℕ → Type 0) → (List ℕ → DiskFault → Type 0) → Option (List ℕ) → Option (List ℕ)
    → Type 0
IsKeepRead gives fails None file = file ≡ None
IsKeepRead gives fails (Some path) (Some bytes) = gives path bytes
IsKeepRead gives fails (Some path) None = fails path Absent

-- the file of kept values, which is named, is there, and the disk failed to give it for this reason
abbrev pub IsKeepWithheld : (List ℕ → DiskFault → Type 0) → Option (List ℕ) → List ℕ → DiskFault → Type 0
IsKeepWithheld fails named path why = (named ≡ Some path) × (why ≢ Absent) × fails path why

-- that is reported
abbrev pub IsKeepUnread : (List ℕ → DiskFault → Type 0) → Option (List ℕ) → Unserved → Type 0
IsKeepUnread fails named (NotRead path why) = IsKeepWithheld fails named path.now why
IsKeepUnread fails named (NotWritten path why) = ⊥
IsKeepUnread fails named (NotPrinted error) = ⊥

-- what the files of a building hold
pub record LiveBytes : Type 0 where
  pub binding : List ℕ
  pub text : List ℕ
  pub file : Option (List ℕ)

-- a building of these files begins so
pub record HasBegun (binding text : List ℕ) (file : Option (List ℕ)) (begun : Beginning) : Type 0 where
  pub used : AreUsed file begun.kept
  pub loaded : IsBegunUnder binding text begun.kept begun.setup
  pub noted : IsNotedUnder binding text file begun.kept begun.note
