use Rattle.std.proofs.Common.{◌≡◌, ◌++◌, length, replicate, take}
use Rattle.std.specs.Prelude.{flat_map}
use Rattle.ilsource.specs.Words.{places_in}
use Rattle.ilsyms.proofs.needs.word_places.Given as goal

abbrev pub invariant-loop-line : goal.invariant-loop-line
invariant-loop-line l =
    l.places.items
    ≡ replicate (length l.function.variables) l.function.function.name.from
    ++ flat_map places_in (take l.line-index l.line-items)
