use Rattle.std.proofs.Common.{◌≡◌, take}
use Rattle.ilplan.specs.Beginnings.{each_with}
use Rattle.ilplan.proofs.Beginnings.{in_place}
use Rattle.ilplan.proofs.task.begin_blocks.Given as goal

abbrev pub invariant-loop-i : goal.invariant-loop-i
invariant-loop-i l = l.states.items ≡ each_with in_place l.fn.states.items (take l.i l.firsts)
