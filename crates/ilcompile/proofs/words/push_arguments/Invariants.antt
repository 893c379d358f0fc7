use Rattle.std.proofs.Common.{◌≡◌, ◌++◌, drop, map}
use Rattle.std.specs.List.{AllByRecursion}
use Rattle.ilcode.specs.Words.{HasWord}
use Rattle.ilcompile.specs.Layout.{word_of_argument}
use Rattle.ilcompile.proofs.words.push_arguments.Given as goal

abbrev pub invariant-loop-argument : goal.invariant-loop-argument
invariant-loop-argument l = record {
  items : l.words.items ++ map (word_of_argument l.numbers) (drop l.argument-index l.arguments)
      ≡ l.initial.words.items ++ map (word_of_argument l.numbers) l.arguments;
  near : AllByRecursion HasWord (map (word_of_argument l.numbers) (drop l.argument-index l.arguments));
}
