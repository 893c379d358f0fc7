use Rattle.gearcmd.specs.Limits.{most_buses}
use Rattle.std.proofs.Common.{refl, arith}
use Rattle.ilblocks.specs.declared.kind.BlockKind.TheVariants as kinds
use Rattle.ilblocks.proofs.Blocks.{natural_within}
use Rattle.ilblocks.proofs.request.gear_level.Goals as goal

pub address-requires : goal.address-requires
address-requires c = let n = natural_within most_buses kinds.GearLevel c.args.block.now 2 80 c.requires refl in
    omega (arith, n)

pub byte-requires : goal.byte-requires
byte-requires c = let n = natural_within most_buses kinds.GearLevel c.args.block.now 3 255 c.requires refl in
    omega (arith, n)
