use Rattle.ildeclared.specs.Declarations.{external}
use Rattle.ildeclared.proofs.Collected.{each_more, each_of_all}
use Rattle.ildeclared.proofs.externals.add_externals.Goals as goal

pub loop-name-preserved : goal.loop-name-preserved
loop-name-preserved c =
    each_more (external c.args.value_type) c.args.names.now c.loop-name.name-index
    (record { from = 0; to = 0 }) c.args.externals.now.items c.loop-name.externals.items c.push.new.self.items
    c.loop-name-test.true c.loop-name.invariant
    c.in_ok-push.ensures.items

pub returns : goal.returns
returns c =
    each_of_all (external c.args.value_type) c.args.names.now c.loop-name.name-index
    c.args.externals.now.items c.loop-name.externals.items c.loop-name-test.false c.loop-name.invariant
