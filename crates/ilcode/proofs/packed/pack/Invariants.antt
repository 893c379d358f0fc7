use Rattle.std.proofs.Common.{◌≡◌, ◌++◌, drop}
use Rattle.std.specs.List.{AllByRecursion}
use Rattle.ilcode.specs.Words.{HasWord}
use Rattle.ilcode.proofs.packed.pack.Given as goal

abbrev pub invariant-loop-word : goal.invariant-loop-word
invariant-loop-word l = record {
  packed : l.packed.items ++ drop l.word-index l.words ≡ l.words;
  held : AllByRecursion HasWord (drop l.word-index l.words);
}
