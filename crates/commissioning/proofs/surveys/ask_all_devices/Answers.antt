use Rattle.std.proofs.Common.{◌≤◌, ◌<◌, subst, arith}
use Rattle.std.proofs.lemmas.Result.{err_from_is_err_and}
use Rattle.commissioning.specs.Surveys.{AreParts, AsksMore, IsDevicePart}
use Rattle.commissioning.proofs.Surveying.{asks_of_more, more_part, more_all}
use Rattle.commissioning.specs.Asking.{IsBrokenOff}
use Rattle.commissioning.proofs.Breaking.{broken_part}
use Rattle.commissioning.proofs.Completing.{some_device}
use Rattle.commissioning.proofs.surveys.ask_all_devices.Goals as goal

pub returns-in_err-ask_device-clause-fault : goal.returns-in_err-ask_device-clause-fault
returns-in_err-ask_device-clause-fault g c =
    let p = err_from_is_err_and c.from_residual.result c.from_residual.ensures.1 in
    let fewer : c.loop-number.number < 64 = omega arith in
    rw (p.1, p.2) (broken_part IsDevicePart some_device c.loop-number.number 64 c.in_err-ask_device.field-0.0
    (g.B.Bus.log c.args.bus.now) (g.B.Bus.log c.loop-number.bus) (g.B.Bus.log c.ask_device.new.bus) fewer
    (asks_of_more (AreParts IsDevicePart c.loop-number.number) c.args.asked.now.items c.loop-number.asked.items
    (g.B.Bus.log c.args.bus.now) (g.B.Bus.log c.loop-number.bus) c.loop-number.invariant)
    (subst (λ n. IsBrokenOff (IsDevicePart n) c.in_err-ask_device.field-0.0 (g.B.Bus.log c.loop-number.bus)
    (g.B.Bus.log c.ask_device.new.bus)) c.in-Some.ensures.1 c.in_err-ask_device.ensures.fault))

pub loop-number-preserved : goal.loop-number-preserved
loop-number-preserved g c =
    more_part IsDevicePart c.loop-number.number c.args.asked.now.items c.loop-number.asked.items c.ask_device.new.asked.items
    (g.B.Bus.log c.args.bus.now) (g.B.Bus.log c.loop-number.bus) (g.B.Bus.log c.ask_device.new.bus)
    c.loop-number.invariant
    (subst (λ n. AsksMore (IsDevicePart n) c.loop-number.asked.items c.ask_device.new.asked.items (g.B.Bus.log c.loop-number.bus)
    (g.B.Bus.log c.ask_device.new.bus)) c.in-Some.ensures.1 c.in_ok-ask_device.ensures.more)

pub returns-clause-more : goal.returns-clause-more
returns-clause-more g c =
    let most : c.loop-number.number ≤ 64 = omega arith in
    more_all IsDevicePart c.loop-number.number 64 c.args.asked.now.items c.loop-number.asked.items
    (g.B.Bus.log c.args.bus.now) (g.B.Bus.log c.loop-number.bus) most c.loop-number-test.false c.loop-number.invariant
