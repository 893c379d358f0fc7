-- What a scenario is played from, or what stands against that: the fault of the binding, else of the text, else of the
-- scenario, else why the plant does not start (profile).
use Rattle.std.specs.Prelude.{◌≡◌, ℕ, ◌⊎◌, List, Option, Some, Err, ⊤}
use Rattle.std.specs.Option.{option_copied}
use Rattle.std.specs.Borrow.{Bor}
use Rattle.ilplan.specs.Plans.{Planned}
use Rattle.ilcompile.specs.Loaded.{Loaded}
use Rattle.wordlines.specs.declared.statements.Statement.{Statement}
use Rattle.wordlines.specs.Happenings.{happenings}
use Rattle.wordlines.specs.Scenarios.{IsScenario, IsJudged}
use Rattle.simbus.specs.Simulated.{Simulated}
use Rattle.livekeep.specs.KeptFiles.{KeptState}
use Rattle.plantevents.specs.declared.event.Event.{Event}
use Rattle.plantevents.specs.Legal.{AreLegal}
use Rattle.plant.specs.Shown.{Shown}
use Rattle.plantload.specs.MeantScans.{AreAsMeant}
use Rattle.plantdriving.specs.Downs.{has_down}
use Rattle.plantplay.specs.ByScenario.{IsByScenario}
use Rattle.plantplay.specs.Installations.{IsInstallation, IsStartFault, stage_of}
use Rattle.plantplay.specs.Stage.{IsPlayedTo}
use Rattle.plantplay.specs.declared.installation.Installation.{Installation}
use Rattle.plantplay.specs.declared.ending.Ending.{Ending}
use Rattle.commandfiles.specs.ExitStatus.{ExitStatus}
use Rattle.commandfiles.specs.ExitStatus.TheVariants.{Accepted, Refused, Misused}
use Rattle.commandoptions.specs.declared.expected_word.ExpectedWord.{ExpectedWord}
use Rattle.commandoptions.specs.declared.files.PlayFiles.{PlayFiles}
use Rattle.commandfiles.specs.PlayStop.{PlayStop}
use Rattle.commandfiles.specs.PlayStop.TheVariants.{Text, Scenario, Start}
use Rattle.textanswers.specs.declared.stop.Stop.{Stop}
use Rattle.commandfiles.specs.declared.reading.DiskFault.{DiskFault}
use Rattle.commandfiles.specs.declared.serving.Unserved.{Unserved}
use Rattle.commandfiles.specs.declared.serving.Unserved.TheVariants.{NotRead, NotWritten, NotPrinted}
use Rattle.commandfiles.specs.Beginnings.{AreUsed, IsBegunUnder, IsStopUnder, tree_of}
use Rattle.commandfiles.specs.Served.{IsGiven}
use Rattle.commandfiles.specs.ExitStatuses.{status_of_play, status_of_play_stop}
use Rattle.plantplay.specs.Expected.{AreKnown, AreMet}
use Rattle.plantplay.specs.Watched.{AreWatchable}

-- the bytes of the three files, and of that of kept values where one is named
pub record PlayBytes : Type 0 where
  pub binding : List ℕ
  pub text : List ℕ
  pub scenario : List ℕ
  pub file : Option (List ℕ)

-- ---- what is played

-- The text's setup: where no file of kept values is named, or none that can be used, the text's own; else the one that
-- begins with the values of the file.
pub record IsSetupOf (bytes : PlayBytes) (setup : Loaded) : Type 0 where
  pub kept : Option KeptState
  pub used : AreUsed bytes.file kept
  pub loaded : IsBegunUnder bytes.binding bytes.text kept setup

-- each scan of a history came to what the source program that the text spells means of the snapshot that it took
abbrev pub AreMeantBy : (bytes : PlayBytes) (setup : Loaded) → IsSetupOf bytes setup → List Event → Type 0
AreMeantBy bytes setup is history =
    AreAsMeant (tree_of is.loaded.0 bytes.text is.kept setup is.loaded.2) is.loaded.0.buses history

-- the installation of the text's setup on the buses of the scenario, to which nothing has happened
pub record IsStarted (bytes : PlayBytes) (limit : ℕ) (installation : Installation Simulated)
    (statements : List Statement) : Type 0 where
  pub setup : Loaded
  pub loaded : IsSetupOf bytes setup
  pub scenario : IsScenario bytes.scenario statements
  pub opened : IsInstallation setup statements limit installation

-- ---- what stands against it

abbrev pub IsTextStop : PlayBytes → Stop → Type 0
IsTextStop bytes stop = IsStopUnder bytes.binding bytes.text stop

abbrev pub HasSetup : PlayBytes → Type 0
HasSetup bytes = (setup : Loaded) × IsSetupOf bytes setup

abbrev pub HasScenario : PlayBytes → Type 0
HasScenario bytes = (statements : List Statement) × IsScenario bytes.scenario statements

-- the fault of the binding or the text, else of the scenario, else why the plant of that text does not start with this
-- number of scan workers and this limit
abbrev pub IsPlayStop : PlayBytes → ℕ → ℕ → PlayStop → Type 0
IsPlayStop bytes workers limit (Text stop) = IsTextStop bytes stop
IsPlayStop bytes workers limit (Scenario fault) = HasSetup bytes × IsJudged bytes.scenario (Err fault)
IsPlayStop bytes workers limit (Start fault) =
    (setup : Loaded) × IsSetupOf bytes setup × HasScenario bytes × IsStartFault setup.plan.buses workers limit fault

-- ---- what a play leaves

-- The installation of the text on the buses of the scenario, to which nothing had happened, was played, and ended so. What
-- it leaves: a legal history, in which each scan came to what the source program means of the snapshot that it took; all
-- that the scenario says happened, or as much as it could; so ticks, frames and reports are by the scenario.
pub record IsPlayedOut (bytes : PlayBytes) (limit : ℕ) (ending : Ending) (left : Installation Simulated) : Type 0 where
  pub start : Installation Simulated
  pub statements : List Statement
  pub started : IsStarted bytes limit start statements
  pub legal : AreLegal left.plant.plant left.plant.history
  pub meant : AreMeantBy bytes started.setup started.loaded left.plant.history
  pub played : IsPlayedTo ending (happenings statements) (stage_of start) (stage_of left)
  pub told : IsByScenario started.setup statements ending (stage_of left)

-- ---- how the program ends

-- the exit status of a play that ended so and left this
abbrev pub status_of_played : Ending → Installation Simulated → ExitStatus
status_of_played ending left = status_of_play ending (has_down left.plant.plant.plan.buses left.plant.history)

-- the exit status where something is not as it is expected, by the one that the play has without: what failed stays so
abbrev pub status_unmet : ExitStatus → ExitStatus
status_unmet Accepted = Refused
status_unmet status = status

-- that of the play where all that it left is as it is expected, and else the other one
abbrev pub IsJudgedBy : ExitStatus → Shown → List ExpectedWord → ExitStatus → Type 0
IsJudgedBy played left expected status =
    (AreMet left expected × (status ≡ played)) ⊎ (¬ AreMet left expected × (status ≡ status_unmet played))

-- each name that is expected is that of a global variable of the text, and each that is watched that of a variable
abbrev pub AreNames : Planned → List ExpectedWord → List (Bor (List ℕ)) → Type 0
AreNames plan expected watched = AreKnown plan expected × AreWatchable plan watched

-- Nothing is played, since a name that is expected is none of the text's global variables, or one that is watched is none
-- of its variables.
pub record IsUnknown (bytes : PlayBytes) (limit : ℕ) (expected : List ExpectedWord) (watched : List (Bor (List ℕ)))
    (status : ExitStatus) : Type 0 where
  pub start : Installation Simulated
  pub statements : List Statement
  pub started : IsStarted bytes limit start statements
  pub unknown : ¬ AreNames start.plant.plant.plan expected watched
  pub misused : status ≡ Misused

-- It was played, and ended so; and the exit status is by how it ended and by what was expected of what it left.
pub record IsPlayedUnder (bytes : PlayBytes) (limit : ℕ) (expected : List ExpectedWord) (watched : List (Bor (List ℕ)))
    (status : ExitStatus) : Type 0 where
  pub ending : Ending
  pub left : Installation Simulated
  pub played : IsPlayedOut bytes limit ending left
  pub known : AreNames played.start.plant.plant.plan expected watched
  pub judged : IsJudgedBy (status_of_played ending left) left.plant expected status

-- by what stands against it, or by the names that are asked for, or by how the play ended and what is expected
abbrev pub IsPlayEnd : PlayBytes → ℕ → List ExpectedWord → List (Bor (List ℕ)) → ExitStatus → Type 0
IsPlayEnd bytes limit expected watched status =
    ((stop : PlayStop) × IsPlayStop bytes 1 limit stop × (status ≡ status_of_play_stop stop))
    ⊎ (IsUnknown bytes limit expected watched status ⊎ IsPlayedUnder bytes limit expected watched status)

-- the disk gave these bytes for the three files, and for that of kept values where one is named
pub record AreGiven (gives : List ℕ → List ℕ → Type 0) (files : PlayFiles) (bytes : PlayBytes) : Type 0 where
  pub binding : gives files.binding.now bytes.binding
  pub text : gives files.text.now bytes.text
  pub scenario : gives files.scenario.now bytes.scenario
  pub kept : IsGiven gives (option_copied files.keep) bytes.file

-- the program ends so by what the disk gave for the files; of what is printed nothing is said
pub record IsPlayed (gives : List ℕ → List ℕ → Type 0) (files : PlayFiles) (limit : ℕ) (expected : List ExpectedWord)
    (watched : List (Bor (List ℕ))) (status : ExitStatus) : Type 0 where
  pub bytes : PlayBytes
  pub given : AreGiven gives files bytes
  pub end : IsPlayEnd bytes limit expected watched status

-- ---- files that are not read

-- the binding at this path is not read; or it is, and the text at this path is not; or both are, and the scenario at
-- this path is not; or all three are, and the file of kept values at this path is not
abbrev pub IsFirstFileUnread : (List ℕ → List ℕ → Type 0) → (List ℕ → DiskFault → Type 0) → PlayFiles → List ℕ → DiskFault
    → Type 0
IsFirstFileUnread gives fails files path why =
    ((path ≡ files.binding.now) × fails path why)
    ⊎ (((binding : List ℕ) × gives files.binding.now binding)
    × (((path ≡ files.text.now) × fails path why)
    ⊎ (((text : List ℕ) × gives files.text.now text)
    × (((path ≡ files.scenario.now) × fails path why)
    ⊎ (((scenario : List ℕ) × gives files.scenario.now scenario)
    × (option_copied files.keep ≡ Some path) × fails path why)))))

-- the first of the named files that is not read is reported; of a failure of the writer nothing is said
abbrev pub IsUnplayed : (List ℕ → List ℕ → Type 0) → (List ℕ → DiskFault → Type 0) → PlayFiles → Unserved → Type 0
IsUnplayed gives fails files (NotRead path why) = IsFirstFileUnread gives fails files path.now why
IsUnplayed gives fails files (NotWritten path why) = ⊥
IsUnplayed gives fails files (NotPrinted error) = ⊤
