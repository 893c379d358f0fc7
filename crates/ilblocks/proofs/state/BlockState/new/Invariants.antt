use Rattle.std.proofs.Common.{◌≡◌, take}
use Rattle.ilblocks.proofs.state.BlockState.new.Given as goal

abbrev pub invariant-loop-port : goal.invariant-loop-port
invariant-loop-port l = l.kept.items ≡ take l.port-index l.fn.ports
