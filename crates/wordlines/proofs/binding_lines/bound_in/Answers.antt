use Rattle.wordlines.proofs.Spelled.{bad_bound}
use Rattle.wordlines.proofs.binding_lines.bound_in.Goals as goal

pub returns-in_err-bus : goal.returns-in_err-bus
returns-in_err-bus c =
    bad_bound c.args.words c.next.new.self c.in_ok-next.field-0.now c.from_residual-in_err-bus.result
    c.from_residual-in_err-bus.ensures c.in_ok-next.ensures
    (λ bound place source. c.in_err-bus.ensures bound.bus bound.number place)

pub returns-in_err-source : goal.returns-in_err-source
returns-in_err-source c =
    bad_bound c.args.words c.next.new.self c.in_ok-next.field-0.now c.from_residual-in_err-source.result
    c.from_residual-in_err-source.ensures c.in_ok-next.ensures
    (λ bound place source. c.in_err-source.ensures bound.source source)
