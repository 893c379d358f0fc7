use Rattle.std.proofs.Common.{◌≡◌, ap, ◌∙◌}
use Rattle.ilplan.specs.Plans.{Planned}
use Rattle.livekeep.specs.KeptPlans.{global_firsts, task_firsts}
use Rattle.plantload.proofs.KeptSetups.{kept_setup}
use Rattle.plantload.proofs.kept.begin_kept.Goals as goal

pub returns-clause-setup : goal.returns-clause-setup
returns-clause-setup c = λ wiring bytes is.
    let kept = c.args.kept.now.values in
    let plan = c.args.setup.plan in
    let globals : c.deref.result.now ≡ global_firsts plan kept =
    c.deref.ensures.value
    ∙ (c.in_ok-values.ensures.globals ∙ ap (λ (p : Planned). global_firsts p kept) c.plan-2.ensures.value) in
    let tasks : c.deref-2.result.now ≡ task_firsts plan kept =
    c.deref-2.ensures.value
    ∙ (c.in_ok-values.ensures.tasks ∙ ap (λ (p : Planned). task_firsts p kept) c.plan-2.ensures.value) in
    kept_setup wiring bytes kept c.args.setup c.deref.result.now c.deref-2.result.now c.begin_with.new.self is globals
    tasks c.begin_with.ensures
