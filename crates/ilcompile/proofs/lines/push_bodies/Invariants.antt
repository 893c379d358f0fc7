use Rattle.std.proofs.Common.{◌≡◌, ◌++◌}
use Rattle.std.specs.Prelude.{flat_map}
use Rattle.ilplan.specs.Functions.{those_in}
use Rattle.ilcompile.specs.Layout.{places_of_body}
use Rattle.ilcompile.specs.LayoutSteps.{picked}
use Rattle.ilcompile.proofs.Picked.{left_from}
use Rattle.ilcompile.proofs.lines.push_bodies.Given as goal

abbrev pub invariant-loop-index : goal.invariant-loop-index
invariant-loop-index l =
    l.places.items ++ flat_map places_of_body (those_in (left_from l.functions l.used l.index))
    ≡ l.initial.places.items ++ flat_map places_of_body (those_in (picked l.functions l.used))
