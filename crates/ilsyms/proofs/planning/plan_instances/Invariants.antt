use Rattle.std.proofs.Common.{◌≡◌, ◌+◌, length, map, take}
use Rattle.ilsource.specs.Words.{AreShallow}
use Rattle.ilsource.specs.Programs.{AreSorted}
use Rattle.ilsyms.specs.TaskSteps.{instances_of}
use Rattle.ilsyms.specs.Resolved.{planned_instance}
use Rattle.ilsyms.specs.Variables.{lines_of, slots_of, own_slots, global_slots, blocks_of}
use Rattle.ilsyms.proofs.planning.plan_instances.Given as goal

abbrev pub invariant-loop-instance : goal.invariant-loop-instance
invariant-loop-instance l =
    let is = instances_of l.fn.scope.tree l.fn.instances in
    let front = take l.instance-index is in
    record {
      instances : l.planned.items ≡ map (planned_instance l.fn.scope.tree (slots_of l.fn.scope.tree is) (blocks_of is))
          front;
      first_slot : l.first_slot ≡ length (global_slots l.fn.scope.tree is) + length (own_slots front);
      first_block : l.first_block ≡ length (blocks_of front);
      shallow : AreShallow (lines_of front);
      sorted : AreSorted (lines_of front);
    }
