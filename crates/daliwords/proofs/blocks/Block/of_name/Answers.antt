use Rattle.std.proofs.Common.{◌≡◌, arith}
use Rattle.std.specs.List.{find}
use Rattle.daliwords.specs.Written.{is_named}
use Rattle.daliwords.specs.declared.blocks.TheConstants.{ALL}
use Rattle.daliwords.proofs.NamedBlocks.{found_block}
use Rattle.daliwords.proofs.blocks.Block.of_name.Goals as goal

pub returns : goal.returns
returns c =
    let found = found_block c.args.name.now in
    let same : c.copied.result ≡ find (is_named c.args.name.now) ALL.now = grind arith in
    search (found, same)
