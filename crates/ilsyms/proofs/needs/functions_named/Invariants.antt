use Rattle.std.proofs.Common.{◌≡◌, take}
use Rattle.ilsyms.specs.FunctionSteps.{functions_named}
use Rattle.ilsyms.proofs.needs.functions_named.Given as goal

abbrev pub invariant-loop-used : goal.invariant-loop-used
invariant-loop-used l = l.numbers.items ≡ functions_named l.fn.scope.tree (take l.used-index l.used-items)
