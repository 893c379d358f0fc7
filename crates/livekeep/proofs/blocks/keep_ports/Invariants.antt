use Rattle.std.proofs.Common.{◌≡◌, ◌++◌, drop}
use Rattle.ilblocks.specs.Ports.{ports_of}
use Rattle.livekeep.specs.KeptBlocks.{port_entries}
use Rattle.livekeep.proofs.blocks.keep_ports.Given as goal

-- what is kept so far, and what is kept of the ports that are left
abbrev pub invariant-loop-i : goal.invariant-loop-i
invariant-loop-i l =
    l.kept.items ++ port_entries l.name (drop l.i (ports_of l.fn.kind)) (drop l.i l.values)
    ≡ l.fn.kept.items ++ port_entries l.name (ports_of l.fn.kind) l.values
