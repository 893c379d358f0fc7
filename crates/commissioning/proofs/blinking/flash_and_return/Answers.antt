use Rattle.std.proofs.lemmas.Result.{err_from_is_err_and}
use Rattle.commissioning.proofs.Flashing.{blink_cut, blinked, not_sent_back, unblinked}
use Rattle.commissioning.proofs.blinking.flash_and_return.Goals as goal

pub returns-in_err-outcome-clause-fault : goal.returns-in_err-outcome-clause-fault
returns-in_err-outcome-clause-fault g c =
    let p = err_from_is_err_and c.from_residual.result c.from_residual.ensures.1 in
    rw (p.1, p.2) (unblinked c.args.address c.query.result c.in_err-outcome.field-0.0 (g.B.Bus.log c.args.bus.now)
    (g.B.Bus.log c.outcome_of.new.bus) c.query.ensures c.in_err-outcome.ensures.fault)

pub returns-in_err-flash_thrice-clause-fault : goal.returns-in_err-flash_thrice-clause-fault
returns-in_err-flash_thrice-clause-fault g c =
    let p = err_from_is_err_and c.from_residual-in_err-flash_thrice.result
    c.from_residual-in_err-flash_thrice.ensures.1 in
    rw (p.1, p.2) (blink_cut c.args.address c.in-Some.level c.query.result c.in_ok-outcome.outcome
    c.in_err-flash_thrice.field-0.0 (g.B.Bus.log c.args.bus.now) (g.B.Bus.log c.outcome_of.new.bus)
    (g.B.Bus.log c.flash_thrice.new.bus) c.query.ensures c.in-Some.ensures c.in_ok-outcome.ensures.one
    c.in_err-flash_thrice.ensures.fault)

pub returns-in_err-outcome_of-clause-fault : goal.returns-in_err-outcome_of-clause-fault
returns-in_err-outcome_of-clause-fault g c =
    let p = err_from_is_err_and c.from_residual-in_err-outcome_of.result c.from_residual-in_err-outcome_of.ensures.1 in
    rw (p.1, p.2) (not_sent_back c.args.address c.in-Some.level c.query.result c.in_ok-outcome.outcome
    c.in_err-outcome_of.field-0.0 (g.B.Bus.log c.args.bus.now) (g.B.Bus.log c.outcome_of.new.bus)
    (g.B.Bus.log c.flash_thrice.new.bus) (g.B.Bus.log c.outcome_of-2.new.bus) c.query.ensures c.in-Some.ensures
    c.in_ok-outcome.ensures.one c.in_ok-flash_thrice.ensures.flashes c.in_err-outcome_of.ensures.fault)

pub returns-clause-blinked : goal.returns-clause-blinked
returns-clause-blinked g c =
    blinked c.args.address c.in-Some.level c.query.result c.in_ok-outcome.outcome c.in_ok-outcome_of.field-0
    (g.B.Bus.log c.args.bus.now) (g.B.Bus.log c.outcome_of.new.bus) (g.B.Bus.log c.flash_thrice.new.bus)
    (g.B.Bus.log c.outcome_of-2.new.bus) c.query.ensures c.in-Some.ensures c.in_ok-outcome.ensures.one
    c.in_ok-flash_thrice.ensures.flashes c.in_ok-outcome_of.ensures.one
