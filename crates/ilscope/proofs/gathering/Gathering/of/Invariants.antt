use Rattle.std.proofs.Common.{take}
use Rattle.ilscope.specs.ScopeSteps.{IsGathered}
use Rattle.ilscope.proofs.gathering.Gathering.of.Given as goal

abbrev pub invariant-loop-element : goal.invariant-loop-element
invariant-loop-element l =
    IsGathered l.fn.after l.fn.lower (take l.element-index l.fn.elements) l.gathering.types l.gathering.programs.items
    l.gathering.variable_numbers.items l.gathering.block_numbers.items l.gathering.external_numbers.items
    l.gathering.functions.items l.gathering.own_numbers.items l.gathering.least
