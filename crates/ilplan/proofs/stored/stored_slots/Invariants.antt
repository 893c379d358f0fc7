use Rattle.std.proofs.Common.{take, false, replicate}
use Rattle.std.specs.Prelude.{flat_map}
use Rattle.ilsource.specs.Uses.{uses_in}
use Rattle.ilplan.specs.Plans.{all_lines}
use Rattle.ilplan.specs.StoreSteps.{Adds}
use Rattle.ilplan.proofs.stored.stored_slots.Given as goal

abbrev pub invariant-loop-instance : goal.invariant-loop-instance
invariant-loop-instance l =
    Adds (flat_map uses_in (all_lines (take l.instance-index l.instances))) (replicate l.slots false) l.stored.items
