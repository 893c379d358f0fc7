use Rattle.std.proofs.Common.{◌≡◌, ◌+◌, ◌++◌, map, drop, length}
use Rattle.std.specs.List.{AllByRecursion}
use Rattle.ilcode.specs.Words.{HasWord}
use Rattle.ilcompile.specs.Layout.{words_of_values}
use Rattle.ilcompile.proofs.bodies.push_values.Given as goal

abbrev pub invariant-loop-index : goal.invariant-loop-index
invariant-loop-index l = record {
  items : l.words.items ++ words_of_values l.constants (l.slot + l.index)
      (map (λ v. v.initial) (drop l.index l.variables))
      ≡ l.initial.words.items ++ words_of_values l.constants l.slot (map (λ v. v.initial) l.variables);
  near : AllByRecursion HasWord (words_of_values l.constants (l.slot + l.index)
      (map (λ v. v.initial) (drop l.index l.variables)));
  long : length l.words.items ≡ length l.initial.words.items + l.index;
}
