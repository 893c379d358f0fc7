use Rattle.std.proofs.Common.{◌≡◌, ◌++◌, drop}
use Rattle.std.specs.List.{AllByRecursion}
use Rattle.ilcodefile.specs.Files.{FitsType, slots}
use Rattle.ilcodefile.proofs.encoding.push_slots.Given as goal

-- the bytes so far, and those of what is left; all fit where what is left does
abbrev pub invariant-loop-slot : goal.invariant-loop-slot
invariant-loop-slot l =
    record {
      added : l.bytes.items ++ slots (drop l.slot-index l.types) ≡ l.initial.bytes.items ++ slots l.types;
      fits : AllByRecursion FitsType (drop l.slot-index l.types) → AllByRecursion FitsType l.types;
    }
