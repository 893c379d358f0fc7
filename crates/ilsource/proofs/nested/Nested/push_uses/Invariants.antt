use Rattle.std.proofs.Common.{◌≡◌, ◌++◌, flat_map, take}
use Rattle.ilsource.specs.Uses.{uses_of_piece}
use Rattle.ilsource.proofs.nested.Nested.push_uses.Given as goal

-- the uses of the pieces so far
abbrev pub invariant-loop-piece : goal.invariant-loop-piece
invariant-loop-piece g l = l.uses.items ≡ l.fn.uses.items ++ flat_map uses_of_piece (take l.piece-index l.piece-items)
