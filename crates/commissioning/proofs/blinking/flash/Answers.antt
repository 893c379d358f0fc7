use Rattle.std.proofs.lemmas.Result.{err_from_is_err_and}
use Rattle.commissioning.proofs.Flashing.{flashed, half_flashed, unflashed}
use Rattle.commissioning.proofs.blinking.flash.Goals as goal

pub returns-in_err-outcome_of-clause-fault : goal.returns-in_err-outcome_of-clause-fault
returns-in_err-outcome_of-clause-fault g c =
    let p = err_from_is_err_and c.from_residual.result c.from_residual.ensures.1 in
    rw (p.1, p.2) (unflashed c.args.address c.change.result c.in_err-outcome_of.field-0.0 (g.B.Bus.log c.args.bus.now)
    (g.B.Bus.log c.outcome_of.new.bus) c.change.ensures c.in_err-outcome_of.ensures.fault)

pub returns-in_err-outcome_of-2-clause-fault : goal.returns-in_err-outcome_of-2-clause-fault
returns-in_err-outcome_of-2-clause-fault g c =
    let p = err_from_is_err_and c.from_residual-in_err-outcome_of-2.result
    c.from_residual-in_err-outcome_of-2.ensures.1 in
    rw (p.1, p.2) (half_flashed c.args.address c.change.result c.change-2.result c.in_ok-outcome_of.field-0
    c.in_err-outcome_of-2.field-0.0 (g.B.Bus.log c.args.bus.now) (g.B.Bus.log c.outcome_of.new.bus)
    (g.B.Bus.log c.outcome_of-2.new.bus) c.change.ensures c.change-2.ensures c.in_ok-outcome_of.ensures.one
    c.in_err-outcome_of-2.ensures.fault)

pub returns-clause-flash : goal.returns-clause-flash
returns-clause-flash g c =
    flashed c.args.address c.change.result c.change-2.result c.in_ok-outcome_of.field-0 c.in_ok-outcome_of-2.field-0
    (g.B.Bus.log c.args.bus.now) (g.B.Bus.log c.outcome_of.new.bus) (g.B.Bus.log c.outcome_of-2.new.bus)
    c.change.ensures c.change-2.ensures c.in_ok-outcome_of.ensures.one c.in_ok-outcome_of-2.ensures.one
