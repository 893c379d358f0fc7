use Rattle.std.proofs.Common.{◌≡◌, List, map, sym, subst, arith}
use Rattle.std.proofs.lemmas.Grind.{common_steps}
use Rattle.iltypes.specs.declared.value.Value.{Value}
use Rattle.iltypes.specs.Values.{AreOf}
use Rattle.ilblocks.specs.Ports.{ports_of, types_of_ports, first_of}
use Rattle.ilblocks.proofs.Blocks.{at_first_typed}
use Rattle.ilblocks.proofs.state.BlockState.at_first.Goals as goal

pub returns-clause-typed : goal.returns-clause-typed
returns-clause-typed c buses =
    let e : c.loop-port.ports.items ≡ map (λ port. first_of port.values) (ports_of c.args.kind) =
    grind (arith, common_steps) in
    subst (λ (vs : List Value). AreOf vs (types_of_ports buses c.args.kind)) (sym e) (at_first_typed buses c.args.kind)
