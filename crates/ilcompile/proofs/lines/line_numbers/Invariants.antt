use Rattle.std.proofs.Common.{◌≡◌, ◌++◌, drop, map}
use Rattle.ilsource.specs.Places.{line_at}
use Rattle.ilcompile.proofs.lines.line_numbers.Given as goal

abbrev pub invariant-loop-at : goal.invariant-loop-at
invariant-loop-at l = record {
  text : l.counter.text.now ≡ l.text;
  numbers : l.numbers.items ++ map (line_at l.text) (drop l.at-index l.at-items) ≡ map (line_at l.text) l.at-items;
}
