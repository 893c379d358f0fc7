use Rattle.std.proofs.Common.{◌≡◌, drop, Vec, Global}
use Rattle.ilcells.specs.Banks.{kinds_of}
use Rattle.ilmachine.specs.declared.slots.TaskSlot.{TaskSlot}
use Rattle.ilmachine.specs.RowSteps.{row_under, lists_of}
use Rattle.ilmachine.proofs.overriding.put_overrides.Given as goal

abbrev pub invariant-loop-given : goal.invariant-loop-given
invariant-loop-given l =
    let index = lists_of (λ (v : Vec TaskSlot Global). v.items) l.index in
    record {
      value : row_under index l.task (drop l.given-index l.overrides) l.row
          ≡ row_under index l.task l.overrides l.fn.row;
      kinds : kinds_of l.row ≡ kinds_of l.fn.row;
    }
