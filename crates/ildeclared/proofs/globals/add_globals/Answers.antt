use Rattle.ildeclared.specs.Globals.{global}
use Rattle.ildeclared.proofs.Collected.{each_more, each_of_all}
use Rattle.ildeclared.proofs.globals.add_globals.Goals as goal

pub loop-name-preserved : goal.loop-name-preserved
loop-name-preserved c =
    each_more (global c.args.address c.args.declared) c.args.names.now c.loop-name.name-index
    (record { from = 0; to = 0 }) c.args.globals.now.items c.loop-name.globals.items c.push.new.self.items
    c.loop-name-test.true c.loop-name.invariant
    c.in_ok-push.ensures.items

pub returns : goal.returns
returns c =
    each_of_all (global c.args.address c.args.declared) c.args.names.now c.loop-name.name-index
    c.args.globals.now.items c.loop-name.globals.items c.loop-name-test.false c.loop-name.invariant
