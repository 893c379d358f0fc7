use Rattle.gearcmd.specs.Limits.{most_buses}
use Rattle.std.proofs.Common.{refl, arith}
use Rattle.ilblocks.specs.declared.kind.BlockKind.TheVariants as kinds
use Rattle.ilblocks.proofs.Blocks.{natural_within}
use Rattle.ilblocks.proofs.request.dev_ask.Goals as goal

pub number-requires : goal.number-requires
number-requires c = let n = natural_within most_buses kinds.DevAsk c.args.block.now 2 63 c.requires refl in
    (omega arith, omega (arith, n))

pub number-requires-2 : goal.number-requires-2
number-requires-2 c = let n = natural_within most_buses kinds.DevAsk c.args.block.now 3 31 c.requires refl in
    (omega arith, omega (arith, n))

pub number-requires-3 : goal.number-requires-3
number-requires-3 c = let n = natural_within most_buses kinds.DevAsk c.args.block.now 4 2 c.requires refl in
    (omega arith, omega (arith, n))
