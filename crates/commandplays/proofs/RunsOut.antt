-- What a run leaves, from what it started with.
use Rattle.std.proofs.Common.{◌≡◌, ℕ, List, refl, subst}
use Rattle.ilcompile.specs.Loaded.{Loaded}
use Rattle.wordlines.specs.declared.statements.Statement.{Statement}
use Rattle.wordlines.specs.Scenarios.{IsScenario}
use Rattle.simbus.specs.ScriptedTicks.{ScriptedTicks}
use Rattle.simbus.specs.Simulated.{Simulated}
use Rattle.plant.specs.Shown.{plant_of}
use Rattle.plantrun.specs.Runs.{IsRun}
use Rattle.plantrun.specs.ClosedParts.{ClosedParts}
use Rattle.commandoptions.specs.declared.live_options.RunSize.{RunSize}
use Rattle.commandplays.specs.Plays.{PlayBytes, IsSetupOf}
use Rattle.commandplays.specs.Runs.{IsRunOut}
use Rattle.commandfiles.proofs.MeantOut.{KeptScansAreAsMeant, ScansAreAsMeant, meant_of}

pub run_out : (bytes : PlayBytes) (size : RunSize) (setup : Loaded) (statements : List Statement) (limit : ℕ)
    (left : ClosedParts Simulated ScriptedTicks) → ScansAreAsMeant → KeptScansAreAsMeant → IsSetupOf bytes setup
    → IsScenario bytes.scenario statements → limit ≡ size.limit → IsRun setup statements size.workers limit left
    → IsRunOut bytes size left
run_out bytes size setup statements limit left law kept_law loaded scenario same run = record {
  setup = setup;
  loaded = loaded;
  statements = statements;
  scenario = scenario;
  run = subst (λ (most : ℕ). IsRun setup statements size.workers most left) same run;
  meant =
      meant_of loaded.loaded.0 bytes.text loaded.kept setup loaded.loaded.2 (plant_of setup size.workers)
      left.plant.history law kept_law refl run.run.closed.legal;
}
