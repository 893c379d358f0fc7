-- What a building comes to, and how the program ends then (profile).
use Rattle.std.specs.Prelude.{◌≡◌, ℕ, ◌⊎◌, Bool, true, List, Option, Result, Ok, Err, option_map, if◌then◌else◌, ⊤}
use Rattle.buslink.specs.BusLog.{BusLog}
use Rattle.buslink.specs.ClockLog.{ClockLog}
use Rattle.ilcompile.specs.Loaded.{Loaded}
use Rattle.plantload.specs.MeantScans.{AreAsMeant}
use Rattle.plantdriving.specs.Downs.{has_down}
use Rattle.livehouse.specs.Lived.{Lived}
use Rattle.livehouse.specs.Lives.{HasLived}
use Rattle.commandoptions.specs.declared.files.LiveFiles.{LiveFiles}
use Rattle.commandoptions.specs.declared.live_options.LiveOptions.{LiveOptions}
use Rattle.commandoptions.specs.declared.line_word.LineWord.{LineWord}
use Rattle.livekeep.specs.KeptFiles.{KeptState}
use Rattle.commandfiles.specs.ExitStatus.{ExitStatus}
use Rattle.commandfiles.specs.ExitStatus.TheVariants.{Accepted, Failed, Misused}
use Rattle.commandfiles.specs.ExitStatuses.{status_of_run, status_of_stop}
use Rattle.livehouse.specs.declared.buildings.Building.{Building}
use Rattle.livehouse.specs.declared.stops.LiveStop.{LiveStop}
use Rattle.livehouse.specs.declared.stops.LiveStop.TheVariants.{Ended, Lineup}
use Rattle.livehouse.specs.Buildings.{IsLiveStop, IsNotLived, IsOpened}
use Rattle.commandlives.specs.declared.lived.LiveLeft.{LiveLeft}
use Rattle.commandlives.specs.declared.living.Halted.{Halted}
use Rattle.commandlives.specs.declared.living.Halted.TheVariants as halts
use Rattle.commandfiles.specs.declared.reading.DiskFault.{DiskFault}
use Rattle.commandfiles.specs.declared.serving.Unserved.{Unserved}
use Rattle.commandfiles.specs.declared.serving.Unserved.TheVariants.{NotRead, NotWritten, NotPrinted}
use Rattle.commandfiles.specs.declared.beginning.KeptNote.{KeptNote}
use Rattle.commandfiles.specs.Beginnings.{begins_at, AreUsed, IsBegunUnder, IsKeepRead, IsKeepWithheld, IsNoteTold}
use Rattle.commandfiles.specs.Beginnings.{IsStopUnder, tree_of}

-- which line of a word a bus is behind, with so many milliseconds of patience, as a site says it
abbrev pub OfLine : Type 0 → Type 1
OfLine B = B → LineWord → ℕ → Type 0

-- the period of a clock, the moment at which it begins, its last one, and the path of the file that ends it, as a site
-- says it
abbrev pub TimedAs : Type 0 → Type 1
TimedAs C = C → ℕ → ℕ → ℕ → Option (List ℕ) → Type 0

-- The plant of the text's setup under the binding, which begins with the values of a file of kept ones where there is
-- one, ran on the lines that these words name, each bus on its own, and on the clock that the options ask for, which
-- goes on from when they were kept, with so many scan workers and events of a run (IsOpened). What it leaves: a legal
-- history of all its runs, in which nothing is open, in which lines and clock sent, gave and took what it says
-- (HasLived); and each scan came to what the source program means of the snapshot that it took.
pub record IsLivedOut {B C : Type 0} (binding text : List ℕ) (file : Option (List ℕ)) (bus_log : B → BusLog)
    (clock_log : C → ClockLog) (is_of : OfLine B) (is_timed : TimedAs C) (words : List LineWord)
    (options : LiveOptions) (left : Lived B C) : Type 0 where
  pub setup : Loaded
  pub kept : Option KeptState
  pub used : AreUsed file kept
  pub loaded : IsBegunUnder binding text kept setup
  pub building : Building B C
  pub opened : IsOpened bus_log clock_log is_of is_timed setup words options (begins_at kept) building
  pub lived : HasLived setup options.size.workers options.size.limit building.buses.items building.clock bus_log clock_log
      left
  pub meant : AreAsMeant (tree_of loaded.0 text kept setup loaded.2) loaded.0.buses left.left.plant.history

-- there is no memory for what is written beside it; that a file cannot be written stands against no building
abbrev pub IsUnobserved : List ℕ → List ℕ → Halted → Type 0
IsUnobserved binding text (halts.Text stop) = IsStopUnder binding text stop
IsUnobserved binding text (halts.Building stop) = ⊥

-- what stands against it: the binding's fault or that of the text; else the words of its lines, the clock or the plant
pub record IsBuildingStop (binding text : List ℕ) (file : Option (List ℕ)) (words : List LineWord)
    (options : LiveOptions) (stop : LiveStop) : Type 0 where
  pub setup : Loaded
  pub kept : Option KeptState
  pub used : AreUsed file kept
  pub loaded : IsBegunUnder binding text kept setup
  pub stops : IsLiveStop setup words options stop ⊎ IsNotLived setup options.size setup.plan.buses stop

abbrev pub IsHalted : List ℕ → List ℕ → Option (List ℕ) → List LineWord → LiveOptions → Halted
    → Type 0
IsHalted binding text file words options (halts.Text stop) = IsStopUnder binding text stop
IsHalted binding text file words options (halts.Building stop) = IsBuildingStop binding text file words options stop

-- what a building comes to: what it leaves, or what stands against it
abbrev pub LiveEnd : Type 0 → Type 0 → Type 0
LiveEnd B C = Result (LiveLeft B C) Halted

abbrev pub IsLiveEnd : {B C : Type 0} → List ℕ → List ℕ → Option (List ℕ) → (B → BusLog) → (C → ClockLog) → OfLine B
    → TimedAs C → List LineWord → LiveOptions → LiveEnd B C → Type 0
IsLiveEnd binding text file bus_log clock_log is_of is_timed words options (Ok left) =
    IsLivedOut binding text file bus_log clock_log is_of is_timed words options left.lived
IsLiveEnd binding text file bus_log clock_log is_of is_timed words options (Err halted) =
    IsHalted binding text file words options halted

-- it ends since a bus went down only where that is asked for
abbrev pub IsCutWhereAsked : {B C : Type 0} → Bool → LiveEnd B C → Type 0
IsCutWhereAsked asked (Ok left) = left.is_cut ≡ true → asked ≡ true
IsCutWhereAsked asked (Err halted) = ⊤

-- where it ran, or something stands against its lines, its clock or its plant, what became of the file of kept values is
-- told before
abbrev pub IsToldWhereBegun : {B C : Type 0} → (KeptNote → Type 0) → List ℕ → List ℕ → Option (List ℕ) → LiveEnd B C → Type 0
IsToldWhereBegun is_told binding text file (Ok left) = IsNoteTold is_told binding text file
IsToldWhereBegun is_told binding text file (Err (halts.Building stop)) = IsNoteTold is_told binding text file
IsToldWhereBegun is_told binding text file (Err (halts.Text stop)) = ⊤

-- the exit status by what it leaves: it failed where it ended since a bus went down; else it is that of a run, by
-- whether a bus is down at the end
abbrev pub status_of_left : {B C : Type 0} → LiveLeft B C → ExitStatus
status_of_left left =
    let plant = left.lived.left.plant in
    if left.is_cut then Failed else status_of_run left.lived.ended (has_down plant.plant.plan.buses plant.history)

-- of what stands against it: the words are no command line of this binding; the file that ends it was there already; or
-- anything else
abbrev pub status_of_live_stop : LiveStop → ExitStatus
status_of_live_stop (Lineup fault) = Misused
status_of_live_stop Ended = Accepted
status_of_live_stop _ = Failed

-- the exit status by what a building comes to
abbrev pub status_of_live_end : {B C : Type 0} → LiveEnd B C → ExitStatus
status_of_live_end (Ok left) = status_of_left left
status_of_live_end (Err (halts.Text stop)) = status_of_stop stop
status_of_live_end (Err (halts.Building stop)) = status_of_live_stop stop

-- it comes to this by what the disk gave for the two files, and for that of kept values where one is named, and what
-- became of that is told; of what is printed or written nothing else is said
pub record IsLiveServed {B C : Type 0} (gives : List ℕ → List ℕ → Type 0) (fails : List ℕ → DiskFault → Type 0)
    (is_told : KeptNote → Type 0) (bus_log : B → BusLog) (clock_log : C → ClockLog) (is_of : OfLine B) (is_timed : TimedAs C) (files : LiveFiles)
    (words : List LineWord) (options : LiveOptions) (came_to : LiveEnd B C) : Type 0 where
  pub binding : List ℕ
  pub text : List ℕ
  pub file : Option (List ℕ)
  pub binding_given : gives files.binding.now binding
  pub text_given : gives files.text.now text
  pub file_read : IsKeepRead gives fails (option_map (λ path. path.now) options.beside.keep) file
  pub end : IsLiveEnd binding text file bus_log clock_log is_of is_timed words options came_to
  pub cut : IsCutWhereAsked options.ends_on_down came_to
  pub told : IsToldWhereBegun is_told binding text file came_to

-- the binding is not read; or it is, and the text is not; or both are, and the file of kept values is there and is not
-- read
abbrev pub IsFirstLiveUnread : (List ℕ → List ℕ → Type 0) → (List ℕ → DiskFault → Type 0) → LiveFiles
    → Option (List ℕ) → List ℕ → DiskFault → Type 0
IsFirstLiveUnread gives fails files keep path why =
    ((path ≡ files.binding.now) × fails path why)
    ⊎ (((binding : List ℕ) × gives files.binding.now binding)
    × (((path ≡ files.text.now) × fails path why)
    ⊎ (((text : List ℕ) × gives files.text.now text) × IsKeepWithheld fails keep path why)))

-- the first of the named files that is not read is reported; of a failure of the writer nothing is said
abbrev pub IsLiveUnread : (List ℕ → List ℕ → Type 0) → (List ℕ → DiskFault → Type 0) → LiveFiles → Option (List ℕ)
    → Unserved → Type 0
IsLiveUnread gives fails files keep (NotRead path why) = IsFirstLiveUnread gives fails files keep path.now why
IsLiveUnread gives fails files keep (NotWritten path why) = ⊥
IsLiveUnread gives fails files keep (NotPrinted error) = ⊤
