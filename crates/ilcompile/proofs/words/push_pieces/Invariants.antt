use Rattle.std.proofs.Common.{◌≡◌, ◌++◌, drop, map}
use Rattle.std.specs.List.{AllByRecursion}
use Rattle.ilcode.specs.Words.{HasWord}
use Rattle.ilcompile.specs.Layout.{word_of}
use Rattle.ilcompile.proofs.words.push_pieces.Given as goal

abbrev pub invariant-loop-piece : goal.invariant-loop-piece
invariant-loop-piece l = record {
  items : l.words.items ++ map (λ p. word_of l.numbers p.action) (drop l.piece-index l.pieces)
      ≡ l.initial.words.items ++ map (λ p. word_of l.numbers p.action) l.pieces;
  near : AllByRecursion HasWord (map (λ p. word_of l.numbers p.action) (drop l.piece-index l.pieces));
}
