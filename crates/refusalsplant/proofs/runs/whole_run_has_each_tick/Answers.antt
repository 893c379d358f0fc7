use Rattle.std.proofs.Common.{◌≡◌, ◌∙◌, [], ◌∷◌}
use Rattle.plantevents.specs.Histories.{given_in}
use Rattle.plantrun.specs.Runs.{IsRun}
use Rattle.workers.specs.declared.ended.Ended.TheVariants.{Asked}
use Rattle.refusalsplant.proofs.Results.{if_ok}
use Rattle.refusalsplant.proofs.runs.whole_run_has_each_tick.Goals as goal

pub returns : goal.returns
returns g c =
    if_ok (IsRun c.args.setup c.args.scenario.now 2 1000)
    (λ left. left.ended ≡ Asked → given_in left.plant.history ≡ 5 ∷ 9 ∷ []) c.run.result c.run.ensures.run
    (λ left is asked. (is.whole asked).ticks ∙ c.requires)
