use Rattle.std.proofs.Common.{◌≡◌, ◌++◌, map, take}
use Rattle.ilsource.specs.Words.{place_of}
use Rattle.ilsource.proofs.nested.Nested.push_places.Given as goal

-- the places of the pieces so far
abbrev pub invariant-loop-piece : goal.invariant-loop-piece
invariant-loop-piece g l = l.places.items ≡ l.fn.places.items ++ map place_of (take l.piece-index l.piece-items)
