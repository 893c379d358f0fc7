use Rattle.std.proofs.Common.{◌≡◌, take}
use Rattle.std.specs.Prelude.{filter_map}
use Rattle.ilsyms.specs.TaskSteps.{given_to}
use Rattle.ilsyms.proofs.tasks.instances_in.Given as goal

abbrev pub invariant-loop-one : goal.invariant-loop-one
invariant-loop-one l = l.instances.items ≡ filter_map (given_to l.task) (take l.one-index l.assigned)
