use Rattle.std.proofs.Common.{◌≡◌, ℕ, ◌+◌, drop, take, reverse}
use Rattle.ilsource.specs.Words.{words_of_lines}
use Rattle.ilcompile.specs.Layout.{place_of_label}
use Rattle.ilcompile.specs.LayoutSteps.{place_in, targets_of}
use Rattle.ilcompile.proofs.targets.targets.Given as goal

abbrev pub invariant-loop-index : goal.invariant-loop-index
invariant-loop-index l = record {
  place : l.place ≡ l.start + words_of_lines (take l.index l.lines);
  targets : reverse l.targets.items ≡ targets_of l.place (drop l.index l.lines);
  labels : (label : ℕ) → place_in l.labels label ≡ place_of_label l.place (drop l.index l.lines) label;
}
