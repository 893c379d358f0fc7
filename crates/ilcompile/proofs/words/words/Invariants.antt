use Rattle.std.proofs.Common.{◌≡◌, ◌+◌, ◌≤◌, ◌++◌, length, drop}
use Rattle.std.specs.List.{AllByRecursion}
use Rattle.limits.specs.Limits.{most_words}
use Rattle.ilsource.specs.Words.{words_of_lines}
use Rattle.ilplan.specs.Plans.{all_lines}
use Rattle.ilcode.specs.Words.{HasWord}
use Rattle.ilcompile.specs.Layout.{words_of_programs, starts_from, programs_of}
use Rattle.ilcompile.proofs.words.words.Given as goal

abbrev pub invariant-loop-instance : goal.invariant-loop-instance
invariant-loop-instance l = record {
  words : l.words.items
      ++ words_of_programs l.numbers (length l.words.items) (programs_of (drop l.instance-index l.instances))
      ≡ words_of_programs l.numbers 0 (programs_of l.instances);
  starts : l.starts.items
      ++ starts_from (length l.words.items) (programs_of (drop l.instance-index l.instances))
      ≡ starts_from 0 (programs_of l.instances);
  limit : length l.words.items + words_of_lines (all_lines (drop l.instance-index l.instances)) ≤ most_words;
  near : AllByRecursion HasWord
      (words_of_programs l.numbers (length l.words.items) (programs_of (drop l.instance-index l.instances)));
}
