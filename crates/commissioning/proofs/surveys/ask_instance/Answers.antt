use Rattle.std.proofs.Common.{sym, ◌∙◌}
use Rattle.std.proofs.lemmas.Result.{err_from_is_err_and}
use Rattle.commissioning.specs.Surveys.{IsQuestion}
use Rattle.commissioning.proofs.Surveying.{asks_of_more}
use Rattle.commissioning.proofs.Completing.{instance_unasked, scheme_unasked}
use Rattle.commissioning.proofs.surveys.ask_instance.Goals as goal

pub returns-in_err-outcome-clause-fault : goal.returns-in_err-outcome-clause-fault
returns-in_err-outcome-clause-fault g c =
    let p = err_from_is_err_and c.from_residual.result c.from_residual.ensures.1 in
    rw (p.1, p.2) (instance_unasked c.args.address c.args.instance c.instance_query.result
    c.in_err-outcome.field-0.0 (g.B.Bus.log c.args.bus.now) (g.B.Bus.log c.ask_one.new.bus)
    c.instance_query.ensures c.in_err-outcome.ensures.fault)

pub returns-in_err-ask_one-clause-fault : goal.returns-in_err-ask_one-clause-fault
returns-in_err-ask_one-clause-fault g c =
    let p = err_from_is_err_and c.from_residual-in_err-ask_one.result c.from_residual-in_err-ask_one.ensures.1 in
    rw (p.1, p.2) (scheme_unasked c.args.address c.args.instance c.in_ok-outcome.outcome c.instance_query.result
    c.instance_query-then-is_there.result c.in_err-ask_one.field-0.0
    (g.B.Bus.log c.args.bus.now) (g.B.Bus.log c.ask_one.new.bus) (g.B.Bus.log c.ask_one-then-is_there.new.bus)
    c.instance_query.ensures c.instance_query-then-is_there.ensures
    (sym c.is_answer-is_there.ensures ∙ c.if-is_there.true)
    (asks_of_more (IsQuestion c.instance_query.result c.in_ok-outcome.outcome) c.args.asked.now.items
    c.ask_one.new.asked.items (g.B.Bus.log c.args.bus.now) (g.B.Bus.log c.ask_one.new.bus) c.in_ok-outcome.ensures.more)
    c.in_err-ask_one.ensures.fault)
