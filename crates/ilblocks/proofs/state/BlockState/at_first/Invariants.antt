use Rattle.std.proofs.Common.{◌≡◌, map, take}
use Rattle.ilblocks.specs.Ports.{ports_of, first_of}
use Rattle.ilblocks.proofs.state.BlockState.at_first.Given as goal

abbrev pub invariant-loop-port : goal.invariant-loop-port
invariant-loop-port l =
    l.ports.items ≡ map (λ port. first_of port.values) (take l.port-index (ports_of l.fn.kind))
