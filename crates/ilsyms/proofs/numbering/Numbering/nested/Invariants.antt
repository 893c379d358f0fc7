use Rattle.std.proofs.Common.{◌≡◌, map, take}
use Rattle.ilsource.specs.Renaming.{rename_piece}
use Rattle.ilsyms.specs.NumberingSteps.{numbers}
use Rattle.ilsyms.proofs.numbering.Numbering.nested.Given as goal

abbrev pub invariant-loop-piece : goal.invariant-loop-piece
invariant-loop-piece l = l.pieces.items ≡ map (rename_piece (numbers l.self)) (take l.piece-index l.piece-items)
