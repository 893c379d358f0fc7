use Rattle.std.proofs.Common.{◌≡◌, ◌++◌, drop}
use Rattle.std.specs.Prelude.{flat_map}
use Rattle.ilsource.specs.Words.{places_in}
use Rattle.ilcompile.proofs.lines.push_places.Given as goal

abbrev pub invariant-loop-line : goal.invariant-loop-line
invariant-loop-line l =
    l.places.items ++ flat_map places_in (drop l.line-index l.lines)
    ≡ l.initial.places.items ++ flat_map places_in l.lines
