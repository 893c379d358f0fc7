use Rattle.std.proofs.Common.{◌≡◌, ◌∙◌, [], ◌∷◌, false}
use Rattle.plantevents.specs.Histories.{heard_in, is_down}
use Rattle.plantrun.specs.Runs.{IsRun}
use Rattle.workers.specs.declared.ended.Ended.TheVariants.{Asked}
use Rattle.refusalsplant.proofs.Results.{if_ok}
use Rattle.refusalsplant.proofs.runs.whole_run_has_each_event.Goals as goal

pub returns : goal.returns
returns g c =
    if_ok (IsRun c.args.setup c.args.scenario.now 2 1000)
    (λ left. left.ended ≡ Asked → is_down 0 left.plant.history ≡ false → heard_in 0 left.plant.history ≡ 7 ∷ 8 ∷ [])
    c.run.result c.run.ensures.run
    (λ left is asked up. (is.whole asked).heard 0 c.requires.known up ∙ c.requires.events)
