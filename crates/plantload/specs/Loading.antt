-- What a text is loaded as: its plan with its tasks' codes, or the first of what stands against that (IEC 61131-3,
-- 2.7.2 and 3.2, and profile).
use Rattle.std.specs.Prelude.{◌≡◌, ℕ, ◌<◌, List, Result, Ok, Err, Some, slice_get, ⊤}
use Rattle.wordlines.specs.Wirings.{Wiring}
use Rattle.ilsource.specs.SourceTrees.{Tree}
use Rattle.iltext.specs.Parsing.{IsText, IsTextFault}
use Rattle.ilscope.specs.Reports.{ReportsLeast}
use Rattle.ilplan.specs.Plans.{Planned, PlannedTask}
use Rattle.ilsyms.specs.Faults.{IsFault, IsWellNamed}
use Rattle.ilsyms.specs.Meaning.{source_scan}
use Rattle.ilsyms.specs.Resolved.{plan_of_tree}
use Rattle.ilsyms.specs.Tasks.{SourceTask, tasks_of}
use Rattle.ilverify.specs.declared.refusal.Refusal.{Refusal}
use Rattle.ilverify.specs.Certificates.{IsAccepted, IsRefusal}
use Rattle.ilverify.specs.Verdicts.{Accepted}
use Rattle.ilcompile.specs.Loaded.{AreCodes, Loaded, listing_for}
use Rattle.ilcompile.specs.Meant.{IsMeant}
use Rattle.plantload.specs.declared.fault.LoadFault.{LoadFault}
use Rattle.plantload.specs.declared.fault.LoadFault.TheVariants.{Memory, Text, Name, Code}

-- the bytes spell a source program without a fault of names, whose plan this is
pub record IsPlanOfText (wiring : Wiring) (bytes : List ℕ) (plan : Planned) : Type 0 where
  pub tree : Tree
  pub spelled : IsText bytes tree
  pub named : IsWellNamed tree wiring
  pub resolved : plan ≡ plan_of_tree tree wiring

-- the bytes' plan, with the code of each of its tasks
pub record IsSetup (wiring : Wiring) (bytes : List ℕ) (setup : Loaded) : Type 0 where
  pub plan : IsPlanOfText wiring bytes setup.plan
  pub codes : AreCodes setup.plan setup.codes

-- the runs of each of these codes are the scans of the source program's task of the same number, both ways
abbrev pub AreMeant : Tree → ℕ → List Accepted → Type 0
AreMeant tree buses codes =
    (number : ℕ) (task : SourceTask) (code : Accepted) → slice_get (tasks_of tree) number ≡ Some task
    → slice_get codes number ≡ Some code → IsMeant (source_scan tree buses task) code.code

-- the task of this number is the first whose code has no certificate, and this is its refusal
pub record IsFirstRefused (plan : Planned) (number : ℕ) (refusal : Refusal) : Type 0 where
  pub task : PlannedTask
  pub is : slice_get plan.tasks number ≡ Some task
  pub before : (k : ℕ) (t : PlannedTask) → k < number → slice_get plan.tasks k ≡ Some t
      → IsAccepted (listing_for plan t)
  pub refused : IsRefusal (listing_for plan task) refusal

-- why the bytes have no plan: the text's first fault, else the least fault of its names
abbrev pub IsPlanFault : Wiring → List ℕ → LoadFault → Type 0
IsPlanFault wiring bytes (Text fault) = IsTextFault bytes fault
IsPlanFault wiring bytes (Name fault) =
    (tree : Tree) × IsText bytes tree × ReportsLeast tree.text (IsFault tree wiring) fault
IsPlanFault wiring bytes _ = ⊥

-- why a plan has no codes: the first task that is refused
abbrev pub IsCodeFault : Planned → LoadFault → Type 0
IsCodeFault plan (Code refused) = (refused.plan ≡ plan) × IsFirstRefused plan refused.task refused.refusal
IsCodeFault plan _ = ⊥

-- why the bytes are not loaded
abbrev pub IsLoadFault : Wiring → List ℕ → LoadFault → Type 0
IsLoadFault wiring bytes (Code refused) =
    IsPlanOfText wiring bytes refused.plan × IsFirstRefused refused.plan refused.task refused.refusal
IsLoadFault wiring bytes (Text fault) = IsPlanFault wiring bytes (Text fault)
IsLoadFault wiring bytes (Name fault) = IsPlanFault wiring bytes (Name fault)
IsLoadFault wiring bytes Memory = ⊥

-- what the bytes are loaded as
abbrev pub IsLoaded : Wiring → List ℕ → Result Loaded LoadFault → Type 0
IsLoaded wiring bytes (Ok setup) = IsSetup wiring bytes setup
IsLoaded wiring bytes (Err fault) = IsLoadFault wiring bytes fault

-- the allocator is out of memory, which may be at any time, or it is such a fault
abbrev pub IsLoadFaultOrMemory : (LoadFault → Type 0) → LoadFault → Type 0
IsLoadFaultOrMemory Faults Memory = ⊤
IsLoadFaultOrMemory Faults (Text fault) = Faults (Text fault)
IsLoadFaultOrMemory Faults (Name fault) = Faults (Name fault)
IsLoadFaultOrMemory Faults (Code refused) = Faults (Code refused)

-- the fault stands behind those of the text itself: the text reads whole
abbrev pub IsBehindText : LoadFault → Type 0
IsBehindText (Name fault) = ⊤
IsBehindText (Code refused) = ⊤
IsBehindText (Text fault) = ⊥
IsBehindText Memory = ⊥
