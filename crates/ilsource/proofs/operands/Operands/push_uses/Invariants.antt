use Rattle.std.proofs.Common.{◌≡◌, ◌++◌, map, take}
use Rattle.ilsource.specs.Uses.{read_at}
use Rattle.ilsource.proofs.operands.Operands.push_uses.Given as goal

-- the uses of the operands so far
abbrev pub invariant-loop-operand : goal.invariant-loop-operand
invariant-loop-operand g l =
    l.uses.items ≡ l.fn.uses.items ++ map (read_at l.at) (take l.operand-index l.operand-items)
