-- What a play leaves, from what it started with.
use Rattle.std.proofs.Common.{◌≡◌, ℕ, Bor, List, ap, sym}
use Rattle.wordlines.specs.declared.statements.Statement.{Statement}
use Rattle.wordlines.specs.Happenings.{happenings}
use Rattle.simbus.specs.Simulated.{Simulated}
use Rattle.ilcompile.specs.Loaded.{Loaded}
use Rattle.plantevents.specs.Plants.{Plant}
use Rattle.plantevents.specs.Legal.{AreLegal}
use Rattle.plantplay.specs.ByScenario.{IsByScenario}
use Rattle.plantplay.specs.Installations.{IsInstallation, stage_of}
use Rattle.plantplay.specs.Stage.{Stage, IsPlayedTo}
use Rattle.plantplay.specs.declared.installation.Installation.{Installation}
use Rattle.plantplay.specs.declared.ending.Ending.{Ending}
use Rattle.plant.specs.Shown.{Shown}
use Rattle.commandfiles.specs.ExitStatus.{ExitStatus}
use Rattle.commandoptions.specs.declared.expected_word.ExpectedWord.{ExpectedWord}
use Rattle.commandplays.specs.Plays.{PlayBytes, AreNames, IsJudgedBy, IsSetupOf, IsStarted, IsPlayedOut, IsPlayedUnder}
use Rattle.commandplays.specs.Plays.{status_of_played}
use Rattle.commandfiles.specs.declared.beginning.Beginning.{Beginning}
use Rattle.commandfiles.specs.Beginnings.{HasBegun}
use Rattle.commandfiles.proofs.MeantOut.{KeptScansAreAsMeant, ScansAreAsMeant, meant_of}

-- the law of the plays of a scenario
abbrev pub PlaysAreByScenario : Type 0
PlaysAreByScenario =
    (setup : Loaded) (scenario : List Statement) (limit : ℕ) (start : Installation Simulated) (left : Stage)
    (ending : Ending) → IsInstallation setup scenario limit start
    → IsPlayedTo ending (happenings scenario) (stage_of start) left → IsByScenario setup scenario ending left

pub played_out : (bytes : PlayBytes) (limit : ℕ) (start left : Installation Simulated) (statements : List Statement)
    (ending : Ending) → ScansAreAsMeant → KeptScansAreAsMeant → PlaysAreByScenario
    → IsStarted bytes limit start statements
    → IsPlayedTo ending (happenings statements) (stage_of start) (stage_of left)
    → AreLegal left.plant.plant left.plant.history → IsPlayedOut bytes limit ending left
played_out bytes limit start left statements ending scans kept_scans plays started played legal =
    let is = started.loaded in
    let told = plays started.setup statements limit start (stage_of left) ending started.opened played in
    record {
      start = start;
      statements = statements;
      started = started;
      legal = legal;
      meant =
          meant_of is.loaded.0 bytes.text is.kept started.setup is.loaded.2 left.plant.plant left.plant.history scans
          kept_scans (ap (λ (m : Plant). m.plan) told.plant) legal;
      played = played;
      told = told;
    }

-- and how the program ends after that
pub played_under : (bytes : PlayBytes) (limit : ℕ) (start left : Installation Simulated) (statements : List Statement)
    (ending : Ending) → ScansAreAsMeant → KeptScansAreAsMeant → PlaysAreByScenario
    → IsStarted bytes limit start statements
    → IsPlayedTo ending (happenings statements) (stage_of start) (stage_of left)
    → AreLegal left.plant.plant left.plant.history → (expected : List ExpectedWord) (watched : List (Bor (List ℕ)))
    (status : ExitStatus) → AreNames start.plant.plant.plan expected watched
    → IsJudgedBy (status_of_played ending left) left.plant expected status
    → IsPlayedUnder bytes limit expected watched status
unfolding played_out
played_under bytes limit start left statements ending scans kept_scans plays started played legal expected watched
    status known judged =
    record {
      ending = ending;
      left = left;
      played = played_out bytes limit start left statements ending scans kept_scans plays started played legal;
      known = known;
      judged = judged;
    }

-- what is judged by an exit status is judged by the same one
pub judged_by : (played shown : ExitStatus) (left : Shown) (expected : List ExpectedWord) (status : ExitStatus)
    → shown ≡ played → IsJudgedBy shown left expected status → IsJudgedBy played left expected status
judged_by played shown left expected status same h = rw (sym same) h

-- a play has the setup that it begins with
pub setup_begun : (bytes : PlayBytes) (begun : Beginning) → HasBegun bytes.binding bytes.text bytes.file begun
    → IsSetupOf bytes begun.setup
setup_begun bytes begun has = record {
  kept = begun.kept;
  used = has.used;
  loaded = has.loaded;
}
