use Rattle.std.proofs.Common.{◌≤◌, ◌<◌, true, arith}
use Rattle.std.proofs.lemmas.Result.{err_from_is_err_and}
use Rattle.commissioning.specs.Surveys.{AreParts, IsInstancePart}
use Rattle.commissioning.proofs.Surveying.{asks_of_more, more_part, more_all, device_ends, device_full}
use Rattle.commissioning.proofs.Surveying.{instance_there}
use Rattle.commissioning.proofs.Completing.{device_cut}
use Rattle.commissioning.proofs.surveys.ask_device.Goals as goal

pub returns-in_err-ask_instance-clause-fault : goal.returns-in_err-ask_instance-clause-fault
returns-in_err-ask_instance-clause-fault g c =
    let p = err_from_is_err_and c.from_residual.result c.from_residual.ensures.1 in
    let fewer : c.loop-number.number < 32 = omega arith in
    rw (p.1, p.2) (device_cut c.args.address c.loop-number.number c.in-Some.instance c.in_err-ask_instance.field-0.0
    (g.B.Bus.log c.args.bus.now) (g.B.Bus.log c.loop-number.bus) (g.B.Bus.log c.ask_instance.new.bus) fewer
    c.in-Some.ensures.1
    (asks_of_more (AreParts (IsInstancePart c.args.address true) c.loop-number.number) c.args.asked.now.items
    c.loop-number.asked.items (g.B.Bus.log c.args.bus.now) (g.B.Bus.log c.loop-number.bus) c.loop-number.invariant)
    c.in_err-ask_instance.ensures.fault)

pub returns-then-not-branch-clause-more : goal.returns-then-not-branch-clause-more
returns-then-not-branch-clause-more g c =
    device_ends c.args.address c.loop-number.number c.in-Some.instance c.in_ok-ask_instance.field-0
    c.args.asked.now.items c.loop-number.asked.items c.ask_instance.new.asked.items
    (g.B.Bus.log c.args.bus.now) (g.B.Bus.log c.loop-number.bus) (g.B.Bus.log c.ask_instance.new.bus)
    c.in-Some.ensures.1 c.if-not-branch.true c.loop-number.invariant c.in_ok-ask_instance.ensures.more

pub loop-number-preserved : goal.loop-number-preserved
loop-number-preserved g c =
    more_part (IsInstancePart c.args.address true) c.loop-number.number c.args.asked.now.items
    c.loop-number.asked.items c.ask_instance.new.asked.items
    (g.B.Bus.log c.args.bus.now) (g.B.Bus.log c.loop-number.bus) (g.B.Bus.log c.ask_instance.new.bus)
    c.loop-number.invariant
    (instance_there c.args.address c.loop-number.number c.in-Some.instance c.in_ok-ask_instance.field-0
    c.loop-number.asked.items c.ask_instance.new.asked.items (g.B.Bus.log c.loop-number.bus)
    (g.B.Bus.log c.ask_instance.new.bus) c.in-Some.ensures.1 c.if-not-branch.false c.in_ok-ask_instance.ensures.more)

pub returns-clause-more : goal.returns-clause-more
returns-clause-more g c =
    let most : c.loop-number.number ≤ 32 = omega arith in
    device_full c.args.address c.args.asked.now.items c.loop-number.asked.items
    (g.B.Bus.log c.args.bus.now) (g.B.Bus.log c.loop-number.bus)
    (more_all (IsInstancePart c.args.address true) c.loop-number.number 32 c.args.asked.now.items
    c.loop-number.asked.items (g.B.Bus.log c.args.bus.now) (g.B.Bus.log c.loop-number.bus) most
    c.loop-number-test.false c.loop-number.invariant)
