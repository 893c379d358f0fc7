use Rattle.std.proofs.Common.{◌≡◌, ◌≤◌, ◌+◌, ◌++◌}
use Rattle.std.specs.Prelude.{sum_by}
use Rattle.limits.specs.Limits.{most_slots, most_words}
use Rattle.ilplan.specs.Functions.{slots_of_function, those_in, words_of_function}
use Rattle.ilcompile.specs.Layout.{bodies_from}
use Rattle.ilcompile.specs.LayoutSteps.{picked}
use Rattle.ilcompile.proofs.Picked.{left_from}
use Rattle.ilcompile.proofs.bodies.bodies.Given as goal

abbrev pub invariant-loop-index : goal.invariant-loop-index
invariant-loop-index l = record {
  items : l.bodies.items ++ bodies_from l.start l.next (those_in (left_from l.functions l.used l.index))
      ≡ bodies_from l.place l.first (those_in (picked l.functions l.used));
  slots : l.next + sum_by slots_of_function (those_in (left_from l.functions l.used l.index)) ≤ most_slots;
  words : l.start + sum_by words_of_function (those_in (left_from l.functions l.used l.index)) ≤ most_words;
}
