use Rattle.std.proofs.Common.{◌≡◌, ◌++◌, take}
use Rattle.std.specs.Prelude.{flat_map}
use Rattle.livekeep.specs.Printed.{entry_line}
use Rattle.livekeep.proofs.page.add_values.Given as goal

abbrev pub invariant-loop-value : goal.invariant-loop-value
invariant-loop-value l = l.lines.items ≡ l.fn.lines.items ++ flat_map entry_line (take l.value-index l.values)
