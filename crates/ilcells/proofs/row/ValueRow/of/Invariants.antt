use Rattle.std.proofs.Common.{◌≡◌, take}
use Rattle.ilcells.specs.Banks.{kinds_of}
use Rattle.ilcells.proofs.row.ValueRow.of.Given as goal

abbrev pub invariant-loop-slot : goal.invariant-loop-slot
invariant-loop-slot l =
    record {
      kinds : kinds_of l.row ≡ kinds_of l.values;
      written : take l.slot l.row ≡ take l.slot l.values;
    }
