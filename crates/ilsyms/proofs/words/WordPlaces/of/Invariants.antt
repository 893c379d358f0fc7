use Rattle.std.proofs.Common.{◌≡◌, flat_map, take}
use Rattle.ilsource.specs.Words.{places_in}
use Rattle.ilsyms.proofs.words.WordPlaces.of.Given as goal

abbrev pub invariant-loop-line : goal.invariant-loop-line
invariant-loop-line l = l.places.items ≡ flat_map places_in (take l.line-index l.line-items)
