use Rattle.std.proofs.Common.{◌≡◌, ◌++◌, drop}
use Rattle.std.specs.List.{AllByRecursion}
use Rattle.ilcodefile.specs.Files.{FitsValue, constants}
use Rattle.ilcodefile.proofs.encoding.push_constants.Given as goal

-- the bytes so far, and those of what is left; all fit where what is left does
abbrev pub invariant-loop-value : goal.invariant-loop-value
invariant-loop-value l =
    record {
      added : l.bytes.items ++ constants (drop l.value-index l.values) ≡ l.initial.bytes.items ++ constants l.values;
      fits : AllByRecursion FitsValue (drop l.value-index l.values) → AllByRecursion FitsValue l.values;
    }
