use Rattle.std.proofs.Common.{◌++◌, length}
use Rattle.ilplan.specs.Functions.{those_in}
use Rattle.ilcompile.specs.Layout.{words_of_bodies}
use Rattle.ilcompile.specs.LayoutSteps.{picked}
use Rattle.ilcompile.proofs.Picked.{BodiesLeft, left_from}
use Rattle.ilcompile.proofs.bodies.push_bodies.Given as goal

abbrev pub invariant-loop-index : goal.invariant-loop-index
invariant-loop-index l =
    BodiesLeft l.constants l.placed
    (l.initial.words.items ++ words_of_bodies l.constants l.placed (length l.initial.words.items) l.first
    (those_in (picked l.functions l.used)))
    l.words.items l.next (left_from l.functions l.used l.index)
