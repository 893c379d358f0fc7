use Rattle.std.proofs.Common.{◌≡◌, drop}
use Rattle.ilblocks.specs.Ports.{ports_of}
use Rattle.livekeep.specs.KeptBlocks.{kept_ports}
use Rattle.livekeep.proofs.KeptParts.{ports_left}
use Rattle.livekeep.proofs.blocks.kept_ports.Given as goal

-- the values so far, and those of the ports that are left
abbrev pub invariant-loop-port : goal.invariant-loop-port
invariant-loop-port l =
    ports_left l.kept.values l.buses l.name l.ports.items (drop l.port-index (ports_of l.fn.kind))
    ≡ kept_ports l.kept.values l.buses l.name (ports_of l.fn.kind)
