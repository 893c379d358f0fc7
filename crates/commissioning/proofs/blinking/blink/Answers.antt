use Rattle.std.proofs.lemmas.Result.{err_from_is_err_and}
use Rattle.commissioning.proofs.Showing.{shown, shown_in_part, unshown}
use Rattle.commissioning.proofs.blinking.blink.Goals as goal

pub returns-in_err-status-clause-fault : goal.returns-in_err-status-clause-fault
returns-in_err-status-clause-fault g c =
    let p = err_from_is_err_and c.from_residual.result c.from_residual.ensures.1 in
    rw (p.1, p.2) (unshown c.args.address c.query.result c.in_err-status.field-0.0 (g.B.Bus.log c.args.bus.now)
    (g.B.Bus.log c.outcome_of.new.bus) c.query.ensures c.in_err-status.ensures.fault)

pub returns-in_err-blinked-clause-fault : goal.returns-in_err-blinked-clause-fault
returns-in_err-blinked-clause-fault g c =
    let p = err_from_is_err_and c.from_residual-in_err-blinked.result c.from_residual-in_err-blinked.ensures.1 in
    rw (p.1, p.2) (shown_in_part c.args.address c.query.result c.in_ok-status.status c.in_err-blinked.field-0.0
    (g.B.Bus.log c.args.bus.now) (g.B.Bus.log c.outcome_of.new.bus) (g.B.Bus.log c.flash_and_return.new.bus)
    c.query.ensures c.in_ok-status.ensures.one c.in_err-blinked.ensures.fault)

pub returns-clause-shown : goal.returns-clause-shown
returns-clause-shown g c =
    shown c.args.address c.query.result c.in_ok-status.status c.in_ok-blinked.blinked (g.B.Bus.log c.args.bus.now)
    (g.B.Bus.log c.outcome_of.new.bus) (g.B.Bus.log c.flash_and_return.new.bus) c.query.ensures
    c.in_ok-status.ensures.one c.in_ok-blinked.ensures.blinked
