use Rattle.std.proofs.Common.{◌≡◌, ◌∙◌, ◌+◌, arith, subst, sym, Option}
use Rattle.plantlive.proofs.Intervals.{IsLeastBefore, cyclic_after, event_after, is_period, positive}
use Rattle.plantlive.proofs.period.period_of.Goals.{in-Cyclic, in_default}
use Rattle.plantlive.proofs.period.period_of.Goals as goal

pub loop-task-preserved : goal.loop-task-preserved
loop-task-preserved c =
    let plan = c.args.plan.now in let count = c.loop-task.task in let task = c.task.result.now in
    let at = c.task.ensures.value in let activation = sym c.activation.ensures.value in
    elim c.match-activation.branch [
      | in-Cyclic w ↦
          let cyclic = activation ∙ w.in-Cyclic.is in
          subst (λ (least : Option _). IsLeastBefore plan (count + 1) least) (sym w.least-is)
          (cyclic_after plan count w.in-Cyclic.interval w.lesser.result task c.loop-task.least at cyclic
          (positive task w.in-Cyclic.interval cyclic c.task.ensures.limits.interval) w.lesser.ensures
          c.loop-task.invariant)
      | in_default w ↦
          subst (λ (least : Option _). IsLeastBefore plan (count + 1) least) (sym w.least-is)
          (event_after plan count w.in_default.field-0 task c.loop-task.least at (activation ∙ w.in_default.is)
          c.loop-task.invariant)
    ]

pub returns : goal.returns
returns g =
    let plan = g.args.plan.now in let all = g.tasks-task-end.ensures.value in
    let not_before = g.loop-task-test.false in let not_past = g.loop-task.auto.task-end in
    let end : g.loop-task.task ≡ g.tasks-task-end.result = omega (arith, not_before, not_past) in
    let is =
    is_period plan g.loop-task.task g.unwrap_or.result g.loop-task.least (end ∙ all) g.loop-task.invariant
    g.unwrap_or.ensures
    in
    record { value = is.0; range = (is.1, is.2) }
