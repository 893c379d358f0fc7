use Rattle.std.proofs.Common.{ap, sym, ◌∙◌}
use Rattle.ilsyms.specs.TaskSteps.{assigned}
use Rattle.ilsyms.proofs.TaskInstances.{one_more, no_more}
use Rattle.ilsyms.proofs.tasks.assigned_instances.Goals as goal
use Rattle.ilsyms.proofs.tasks.assigned_instances.Goals.{in-Some+in_ok-push, in_default}

pub loop-instance-preserved : goal.loop-instance-preserved
loop-instance-preserved c =
    elim c.match-assigned_instance.branch [
      | in-Some+in_ok-push w ↦
          one_more (assigned c.args.scope.now.tree) c.args.instances.now c.loop-instance.instance-index _
          c.loop-instance-test.true c.loop-instance.assigned.items c.match-assigned_instance.assigned.items
          w.in-Some.one
          c.loop-instance.invariant (sym c.assigned_instance.ensures ∙ w.in-Some.is)
          (ap (λ v. v.items) w.assigned-is ∙ w.in_ok-push.ensures.items)
      | in_default w ↦
          no_more (assigned c.args.scope.now.tree) c.args.instances.now c.loop-instance.instance-index _
          c.loop-instance-test.true c.loop-instance.assigned.items c.match-assigned_instance.assigned.items
          c.loop-instance.invariant (sym c.assigned_instance.ensures ∙ w.in_default.is)
          (ap (λ v. v.items) w.assigned-is)
    ]
