use Rattle.std.proofs.Common.{◌≡◌, take}
use Rattle.ilplan.specs.Beginnings.{each_with, global_with}
use Rattle.ilplan.proofs.plan.begin_globals.Given as goal

abbrev pub invariant-loop-i : goal.invariant-loop-i
invariant-loop-i l = l.globals.items ≡ each_with global_with l.fn.globals.items (take l.i l.values)
