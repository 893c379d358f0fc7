use Rattle.std.proofs.Common.{sym}
use Rattle.std.proofs.lemmas.Result.{err_from_is_err_and}
use Rattle.commissioning.specs.Surveys.{IsQuestion}
use Rattle.commissioning.proofs.Surveying.{asks_of_more, gear_there}
use Rattle.commissioning.proofs.Completing.{gear_cut, gear_unasked}
use Rattle.commissioning.proofs.surveys.ask_gear.Goals as goal

pub returns-in_err-outcome-clause-fault : goal.returns-in_err-outcome-clause-fault
returns-in_err-outcome-clause-fault g c =
    let p = err_from_is_err_and c.from_residual.result c.from_residual.ensures.1 in
    rw (p.1, p.2) (gear_unasked c.args.address c.query.result c.in_err-outcome.field-0.0 (g.B.Bus.log c.args.bus.now)
    (g.B.Bus.log c.ask_one.new.bus) c.query.ensures c.in_err-outcome.ensures.fault)

pub returns-in_err-ask_queries-clause-fault : goal.returns-in_err-ask_queries-clause-fault
returns-in_err-ask_queries-clause-fault g c =
    let p = err_from_is_err_and c.from_residual-in_err-ask_queries.result
    c.from_residual-in_err-ask_queries.ensures.1 in
    rw (p.1, p.2) (gear_cut c.args.address c.in_ok-outcome.outcome c.query.result c.in_err-ask_queries.field-0.0
    (g.B.Bus.log c.args.bus.now) (g.B.Bus.log c.ask_one.new.bus) (g.B.Bus.log c.ask_queries.new.bus)
    c.query.ensures (sym c.if-is_answer.ensures)
    (asks_of_more (IsQuestion c.query.result c.in_ok-outcome.outcome) c.args.asked.now.items c.ask_one.new.asked.items
    (g.B.Bus.log c.args.bus.now) (g.B.Bus.log c.ask_one.new.bus) c.in_ok-outcome.ensures.more)
    c.in_err-ask_queries.ensures.fault)

pub returns-in_ok-ask_queries-clause-more : goal.returns-in_ok-ask_queries-clause-more
returns-in_ok-ask_queries-clause-more g c =
    gear_there c.args.address c.in_ok-outcome.outcome c.query.result c.args.asked.now.items c.ask_one.new.asked.items
    c.ask_queries.new.asked.items (g.B.Bus.log c.args.bus.now) (g.B.Bus.log c.ask_one.new.bus)
    (g.B.Bus.log c.ask_queries.new.bus) c.query.ensures (sym c.if-is_answer.ensures)
    c.in_ok-outcome.ensures.more c.in_ok-ask_queries.ensures.more
