use Rattle.gearcmd.specs.Limits.{most_buses}
use Rattle.std.proofs.Common.{◌≡◌, Some, arith, rules}
use Rattle.ilblocks.specs.Calls.{command_of}
use Rattle.ilblocks.proofs.Blocks.{asked_bus}
use Rattle.ilblocks.proofs.request.request_of.Goals as goal

pub number-requires : goal.number-requires
number-requires c =
    let e : command_of c.args.kind c.args.block.now ≡ Some c.in_ok-command.command = search rules in
    let n = asked_bus most_buses c.args.kind c.args.block.now c.in_ok-command.command (omega arith) c.requires e in
    (omega arith, omega (arith, n))
