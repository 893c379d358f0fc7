use Rattle.ildeclared.specs.Declarations.{block}
use Rattle.ildeclared.proofs.Collected.{each_more, each_of_all}
use Rattle.ildeclared.proofs.blocks.add_blocks.Goals as goal

pub loop-name-preserved : goal.loop-name-preserved
loop-name-preserved c =
    each_more (block c.args.kind) c.args.names.now c.loop-name.name-index
    (record { from = 0; to = 0 }) c.args.blocks.now.items c.loop-name.blocks.items c.push.new.self.items
    c.loop-name-test.true c.loop-name.invariant
    c.in_ok-push.ensures.items

pub returns : goal.returns
returns c =
    each_of_all (block c.args.kind) c.args.names.now c.loop-name.name-index
    c.args.blocks.now.items c.loop-name.blocks.items c.loop-name-test.false c.loop-name.invariant
