use Rattle.std.proofs.Common.{ap}
use Rattle.plantevents.specs.Plants.{Plant}
use Rattle.plant.specs.Shown.{opened}
use Rattle.plantscript.proofs.Runs.{run_plant}
use Rattle.plantscript.proofs.text.drive_text.Goals as goal

pub returns-clause-driven : goal.returns-clause-driven
returns-clause-driven c =
    let setup = c.in_ok-setup.setup in let loaded = c.in_ok-setup.ensures.setup in
    let wiring = c.args.binding.now in let driven = c.in_ok-driven.driven in let run = c.in_ok-driven.ensures.run in
    let legal = c.in_ok-driven.ensures.legal in
    let same = run_plant (opened setup c.args.workers c.args.limit) c.args.steps.now driven.replies.items driven.plant
    run in
    record {
      setup = setup;
      loaded = loaded;
      run = run;
      history = c.in_ok-driven.ensures.history;
      legal = legal;
      meant = c.scans_are_as_meant.ensures wiring c.args.text.now setup loaded driven.plant.plant
          driven.plant.history (ap (λ (x : Plant). x.plan) same) legal;
    }
