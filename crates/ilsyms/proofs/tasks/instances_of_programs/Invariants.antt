use Rattle.std.proofs.Common.{◌≡◌, take, map}
use Rattle.std.specs.Prelude.{Some}
use Rattle.ilscope.specs.Declarations.{declared_programs}
use Rattle.ilsyms.specs.TaskSteps.{instance_at}
use Rattle.ilsyms.specs.Tasks.{instance_named}
use Rattle.ilsyms.proofs.tasks.instances_of_programs.Given as goal

abbrev pub invariant-loop-number : goal.invariant-loop-number
invariant-loop-number l =
    map (instance_at l.fn.scope.tree) l.instances.items
    ≡ map (λ p. Some (instance_named p.program.name p)) (take l.number (declared_programs l.fn.scope.tree))
