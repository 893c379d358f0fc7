use Rattle.std.proofs.Common.{ap, ◌∙◌}
use Rattle.ilsyms.specs.TaskSteps.{given_to}
use Rattle.ilsyms.proofs.TaskInstances.{one_more, no_more, given, not_given}
use Rattle.ilsyms.proofs.tasks.instances_in.Goals as goal
use Rattle.ilsyms.proofs.tasks.instances_in.Goals.{then-one-task+in_ok-push, else-one-task}

pub loop-one-preserved : goal.loop-one-preserved
loop-one-preserved c =
    elim c.if-one-task.branch [
      | then-one-task+in_ok-push w ↦
          one_more (given_to c.args.task) c.args.assigned.now c.loop-one.one-index _
          c.loop-one-test.true c.loop-one.instances.items c.if-one-task.instances.items _
          c.loop-one.invariant
          (given c.args.task _ w.if-one-task.true)
          (ap (λ v. v.items) w.instances-is ∙ w.in_ok-push.ensures.items)
      | else-one-task w ↦
          no_more (given_to c.args.task) c.args.assigned.now c.loop-one.one-index _
          c.loop-one-test.true c.loop-one.instances.items c.if-one-task.instances.items
          c.loop-one.invariant (not_given c.args.task _ w.if-one-task.false) (ap (λ v. v.items) w.instances-is)
    ]
