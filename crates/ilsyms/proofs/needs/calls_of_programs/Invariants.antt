use Rattle.std.proofs.Common.{◌≡◌, map, take}
use Rattle.ilscope.specs.Declarations.{declared_programs}
use Rattle.ilsyms.specs.FunctionSteps.{calls_of_program}
use Rattle.ilsyms.proofs.needs.calls_of_programs.Given as goal

abbrev pub invariant-loop-program : goal.invariant-loop-program
invariant-loop-program l =
    l.all.items ≡ map (calls_of_program l.fn.scope.tree) (take l.program-index (declared_programs l.fn.scope.tree))
