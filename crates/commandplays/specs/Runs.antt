-- What a run comes to, and how the program ends then (profile). What stands against a run is what stands against a play.
use Rattle.std.specs.Prelude.{ℕ, List, Result, Ok, Err}
use Rattle.ilcompile.specs.Loaded.{Loaded}
use Rattle.wordlines.specs.declared.statements.Statement.{Statement}
use Rattle.wordlines.specs.Scenarios.{IsScenario}
use Rattle.simbus.specs.ScriptedTicks.{ScriptedTicks}
use Rattle.simbus.specs.Simulated.{Simulated}
use Rattle.plantdriving.specs.Downs.{has_down}
use Rattle.plantrun.specs.Runs.{IsRun}
use Rattle.plantrun.specs.ClosedParts.{ClosedParts}
use Rattle.commandfiles.specs.ExitStatus.{ExitStatus}
use Rattle.commandoptions.specs.declared.files.PlayFiles.{PlayFiles}
use Rattle.commandoptions.specs.declared.live_options.RunSize.{RunSize}
use Rattle.commandfiles.specs.PlayStop.{PlayStop}
use Rattle.commandfiles.specs.ExitStatuses.{status_of_play_stop, status_of_run}
use Rattle.commandplays.specs.Plays.{PlayBytes, AreGiven, AreMeantBy, IsPlayStop, IsSetupOf}

-- The plant of the text's setup under the binding, which begins with kept values where a file of them is used, was run
-- on the buses and the clock of the scenario that the bytes spell, with this number of scan workers and this limit. What
-- it leaves: a legal history, in which nothing is open, in which buses and clock sent, gave and took what it says, and
-- which follows the scenario (IsRun); and each scan came to what the source program means of the snapshot that it took.
pub record IsRunOut (bytes : PlayBytes) (size : RunSize) (left : ClosedParts Simulated ScriptedTicks) : Type 0 where
  pub setup : Loaded
  pub loaded : IsSetupOf bytes setup
  pub statements : List Statement
  pub scenario : IsScenario bytes.scenario statements
  pub run : IsRun setup statements size.workers size.limit left
  pub meant : AreMeantBy bytes setup loaded left.plant.history

-- what a run comes to: what it leaves, or what stands against it
abbrev pub RunEnd : Type 0
RunEnd = Result (ClosedParts Simulated ScriptedTicks) PlayStop

abbrev pub IsRunEnd : PlayBytes → RunSize → RunEnd → Type 0
IsRunEnd bytes size (Ok left) = IsRunOut bytes size left
IsRunEnd bytes size (Err stop) = IsPlayStop bytes size.workers size.limit stop

-- the exit status by what a run comes to
abbrev pub status_of_run_end : RunEnd → ExitStatus
status_of_run_end (Ok left) = status_of_run left.ended (has_down left.plant.plant.plan.buses left.plant.history)
status_of_run_end (Err stop) = status_of_play_stop stop

-- it comes to this by what the disk gave for the files; of what is printed nothing is said
pub record IsRunServed (gives : List ℕ → List ℕ → Type 0) (files : PlayFiles) (size : RunSize) (came_to : RunEnd) : Type 0
  where
    pub bytes : PlayBytes
    pub given : AreGiven gives files bytes
    pub end : IsRunEnd bytes size came_to
