use Rattle.gearcmd.specs.Limits.{most_buses}
use Rattle.std.proofs.Common.{refl, arith}
use Rattle.ilblocks.specs.declared.kind.BlockKind.TheVariants as kinds
use Rattle.ilblocks.proofs.Blocks.{natural_within}
use Rattle.ilblocks.proofs.request.gear_pair.Goals as goal

pub address-requires : goal.address-requires
address-requires c = let n = natural_within most_buses kinds.GearPair c.args.block.now 2 80 c.requires refl in
    omega (arith, n)

pub number-requires : goal.number-requires
number-requires c = let n = natural_within most_buses kinds.GearPair c.args.block.now 3 49 c.requires refl in
    (omega arith, omega (arith, n))
