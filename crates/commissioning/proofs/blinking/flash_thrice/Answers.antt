use Rattle.std.proofs.Common.{◌≤◌, ◌<◌, arith}
use Rattle.std.proofs.lemmas.Result.{err_from_is_err_and}
use Rattle.commissioning.proofs.Flashing.{flash_more, flash_all, flashes_cut}
use Rattle.commissioning.proofs.blinking.flash_thrice.Goals as goal

pub returns-in_err-flash-clause-fault : goal.returns-in_err-flash-clause-fault
returns-in_err-flash-clause-fault g c =
    let p = err_from_is_err_and c.from_residual.result c.from_residual.ensures.1 in
    let fewer : c.loop-time._time < 3 = omega arith in
    rw (p.1, p.2) (flashes_cut c.args.address c.loop-time._time c.in_err-flash.field-0.0 (g.B.Bus.log c.args.bus.now)
    (g.B.Bus.log c.loop-time.bus) (g.B.Bus.log c.flash.new.bus) fewer c.loop-time.invariant
    c.in_err-flash.ensures.fault)

pub loop-time-preserved : goal.loop-time-preserved
loop-time-preserved g c =
    flash_more c.args.address c.loop-time._time (g.B.Bus.log c.args.bus.now) (g.B.Bus.log c.loop-time.bus)
    (g.B.Bus.log c.flash.new.bus) c.loop-time.invariant c.in_ok-flash.ensures.flash

pub returns-clause-flashes : goal.returns-clause-flashes
returns-clause-flashes g c =
    let most : c.loop-time._time ≤ 3 = omega arith in
    flash_all c.args.address c.loop-time._time 3 (g.B.Bus.log c.args.bus.now) (g.B.Bus.log c.loop-time.bus) most
    c.loop-time-test.false c.loop-time.invariant
