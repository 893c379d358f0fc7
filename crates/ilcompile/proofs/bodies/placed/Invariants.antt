use Rattle.std.proofs.Common.{◌≡◌, ◌≤◌, ◌+◌, ◌++◌}
use Rattle.std.specs.Prelude.{sum_by}
use Rattle.limits.specs.Limits.{most_slots}
use Rattle.ilplan.specs.Functions.{slots_of_function, those_in}
use Rattle.ilcompile.specs.Layout.{placed_from}
use Rattle.ilcompile.specs.LayoutSteps.{picked}
use Rattle.ilcompile.proofs.Picked.{left_from}
use Rattle.ilcompile.proofs.bodies.placed.Given as goal

abbrev pub invariant-loop-index : goal.invariant-loop-index
invariant-loop-index l = record {
  items : l.placed.items ++ placed_from l.number l.next (left_from l.functions l.used l.index)
      ≡ placed_from 0 l.first (picked l.functions l.used);
  number : l.number ≤ l.index;
  slots : l.next + sum_by slots_of_function (those_in (left_from l.functions l.used l.index)) ≤ most_slots;
}
