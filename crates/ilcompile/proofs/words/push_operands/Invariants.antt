use Rattle.std.proofs.Common.{◌≡◌, ◌+◌, ◌++◌, drop}
use Rattle.std.specs.List.{AllByRecursion}
use Rattle.ilcode.specs.Words.{HasWord}
use Rattle.ilcompile.specs.LayoutSteps.{gives_from}
use Rattle.ilcompile.proofs.words.push_operands.Given as goal

abbrev pub invariant-loop-number : goal.invariant-loop-number
invariant-loop-number l = record {
  items : l.words.items ++ gives_from l.numbers l.function (l.number + 1) (drop l.number l.operands)
      ≡ l.initial.words.items ++ gives_from l.numbers l.function 1 l.operands;
  near : AllByRecursion HasWord (gives_from l.numbers l.function (l.number + 1) (drop l.number l.operands));
}
