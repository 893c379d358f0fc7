use Rattle.std.proofs.Common.{take, length, ◌<◌, [], ◌∷◌, ◌++◌, ap, sym, ◌∙◌, arith}
use Rattle.std.proofs.lemmas.List.{take_more}
use Rattle.plant.specs.Shown.{opened}
use Rattle.plantscript.specs.declared.step.Step.{Step}
use Rattle.plantscript.proofs.Histories.{history_of}
use Rattle.plantscript.proofs.Runs.{run_end, run_step}
use Rattle.plantscript.proofs.driving.drive.Goals as goal

pub loop-step-preserved : goal.loop-step-preserved
loop-step-preserved c =
    let kept = c.loop-step.invariant in let steps = c.args.steps.now in let i = c.loop-step.step-index in
    let lt : i < length steps = omega arith in (
      run_step _ (take i steps) _ c.loop-step.replies.items _ c.loop-step.stepped _ _ _ kept.0 c.serve.ensures
          (take_more steps i c.step-item.result lt ∙ ap (λ (s : Step). take i steps ++ s ∷ []) (sym c.step-item.is)) c.push_reserved.ensures.items,
      (let was = kept.1 in let more = c.push_reserved.ensures.len in omega arith),
      c.push_reserved.ensures.capacity ∙ kept.2,
    )

pub returns-clause-run : goal.returns-clause-run
returns-clause-run c =
    run_end (opened c.args.setup c.args.workers c.args.limit) c.args.steps.now c.loop-step.step-index
    c.loop-step.replies.items c.loop-step.stepped c.into_plant-plant.result c.loop-step-test.false c.loop-step.invariant.0
    c.into_plant-plant.ensures

pub returns-clause-history : goal.returns-clause-history
returns-clause-history c =
    history_of (opened c.args.setup c.args.workers c.args.limit) c.args.steps.now c.loop-step.replies.items
    c.into_plant-plant.result (returns-clause-run c)
