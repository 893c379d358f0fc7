use Rattle.std.proofs.Common.{◌≡◌, ◌++◌, ◌+◌, drop}
use Rattle.ilsource.specs.Trees.{give_pieces}
use Rattle.ilsource.proofs.nested.push_gives.Given as goal

-- the pieces so far, with those of the operands that are left
abbrev pub invariant-loop-index : goal.invariant-loop-index
invariant-loop-index g l =
    l.pieces.items ++ give_pieces l.at l.function (l.index + 1) (drop l.index l.operands)
    ≡ l.fn.pieces.items ++ give_pieces l.at l.function 1 l.operands
