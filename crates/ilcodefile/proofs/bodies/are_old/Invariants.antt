use Rattle.std.proofs.Common.{◌↔◌, drop}
use Rattle.std.specs.List.{AllByRecursion}
use Rattle.ilcode.specs.Words.{IsOldWord}
use Rattle.ilcodefile.proofs.bodies.are_old.Given as goal

-- all are old where what is left is
abbrev pub invariant-loop-word : goal.invariant-loop-word
invariant-loop-word l =
    AllByRecursion IsOldWord (drop l.word-index l.words) ↔ AllByRecursion IsOldWord l.words
