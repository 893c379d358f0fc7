use Rattle.gearcmd.specs.Limits.{most_buses}
use Rattle.std.proofs.Common.{refl, arith}
use Rattle.ilblocks.specs.declared.kind.BlockKind.TheVariants as kinds
use Rattle.ilblocks.proofs.Blocks.{natural_within}
use Rattle.ilblocks.proofs.request.gear_read.Goals as goal

pub number-requires : goal.number-requires
number-requires c = let n = natural_within most_buses kinds.GearRead c.args.block.now 2 63 c.requires refl in
    (omega arith, omega (arith, n))

pub byte-requires : goal.byte-requires
byte-requires c = let n = natural_within most_buses kinds.GearRead c.args.block.now 3 255 c.requires refl in
    omega (arith, n)

pub byte-requires-2 : goal.byte-requires-2
byte-requires-2 c = let n = natural_within most_buses kinds.GearRead c.args.block.now 4 255 c.requires refl in
    omega (arith, n)
