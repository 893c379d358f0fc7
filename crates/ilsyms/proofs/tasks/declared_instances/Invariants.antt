use Rattle.std.proofs.Common.{◌≡◌, take, map}
use Rattle.std.specs.Prelude.{Some}
use Rattle.std.specs.List.{enumerate_from}
use Rattle.ilsyms.specs.TaskSteps.{instance_at}
use Rattle.ilsyms.specs.Tasks.{instances_in}
use Rattle.ilsyms.proofs.tasks.declared_instances.Given as goal

abbrev pub invariant-loop-number : goal.invariant-loop-number
invariant-loop-number l =
    map (map (instance_at l.fn.scope.tree)) l.tasks.items
    ≡ map (λ t. map Some (instances_in l.fn.scope.tree l.fn.configuration.instances t.0))
    (take l.number (enumerate_from 0 l.fn.configuration.tasks))
