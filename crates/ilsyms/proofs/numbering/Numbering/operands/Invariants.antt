use Rattle.std.proofs.Common.{◌≡◌, map, take}
use Rattle.ilsyms.specs.NumberingSteps.{numbers}
use Rattle.ilsyms.proofs.numbering.Numbering.operands.Given as goal

abbrev pub invariant-loop-operand : goal.invariant-loop-operand
invariant-loop-operand l = l.renamed.items ≡ map (numbers l.self).operand (take l.operand-index l.operands)
