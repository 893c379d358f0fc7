use Rattle.std.proofs.Common.{◌≡◌, drop}
use Rattle.ilcells.specs.Banks.{kinds_of}
use Rattle.ilmachine.specs.RowSteps.{row_with}
use Rattle.ilmachine.proofs.overriding.put_slots.Given as goal

abbrev pub invariant-loop-one : goal.invariant-loop-one
invariant-loop-one l =
    record {
      value : row_with (drop l.one-index l.slots) l.value l.task l.row ≡ row_with l.slots l.value l.task l.fn.row;
      kinds : kinds_of l.row ≡ kinds_of l.fn.row;
    }
