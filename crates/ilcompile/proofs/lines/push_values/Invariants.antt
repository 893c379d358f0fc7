use Rattle.std.proofs.Common.{◌≡◌, ◌++◌, replicate}
use Rattle.ilcompile.proofs.lines.push_values.Given as goal

abbrev pub invariant-loop : goal.invariant-loop
invariant-loop l = l.places.items ≡ l.initial.places.items ++ replicate l.counter l.at
