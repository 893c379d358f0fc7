use Rattle.std.proofs.Common.{◌≡◌, map, take}
use Rattle.ilscope.specs.Declarations.{declared_functions}
use Rattle.ilsyms.specs.FunctionSteps.{needs_of}
use Rattle.ilsyms.proofs.needs.needs_of_functions.Given as goal

abbrev pub invariant-loop-function : goal.invariant-loop-function
invariant-loop-function l =
    l.needs.items ≡ map (needs_of l.fn.scope.tree) (take l.function-index (declared_functions l.fn.scope.tree))
