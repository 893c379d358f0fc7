use Rattle.gearcmd.specs.Limits.{most_buses}
use Rattle.std.proofs.Common.{refl, arith}
use Rattle.ilblocks.specs.declared.kind.BlockKind.TheVariants as kinds
use Rattle.ilblocks.proofs.Blocks.{natural_within}
use Rattle.ilblocks.proofs.request.dev_scheme.Goals as goal

pub number-requires : goal.number-requires
number-requires c = let n = natural_within most_buses kinds.DevScheme c.args.block.now 2 63 c.requires refl in
    (omega arith, omega (arith, n))

pub number-requires-2 : goal.number-requires-2
number-requires-2 c = let n = natural_within most_buses kinds.DevScheme c.args.block.now 3 31 c.requires refl in
    (omega arith, omega (arith, n))

pub scheme-requires : goal.scheme-requires
scheme-requires c = let n = natural_within most_buses kinds.DevScheme c.args.block.now 4 4 c.requires refl in
    omega (arith, n)
