use Rattle.std.proofs.Common.{◌≡◌, take}
use Rattle.std.specs.Prelude.{filter_map}
use Rattle.ilsyms.specs.TaskSteps.{assigned}
use Rattle.ilsyms.proofs.tasks.assigned_instances.Given as goal

abbrev pub invariant-loop-instance : goal.invariant-loop-instance
invariant-loop-instance l = l.assigned.items ≡ filter_map (assigned l.scope.tree) (take l.instance-index l.instances)
