use Rattle.std.proofs.Common.{[], ◌∷◌, refl}
use Rattle.std.proofs.lemmas.Result.{err_from_is_err_and}
use Rattle.commissioning.specs.Surveys.{IsSomeQuestion}
use Rattle.commissioning.proofs.Answering.{answered_one}
use Rattle.commissioning.proofs.Breaking.{broken_behind, broken_one}
use Rattle.commissioning.proofs.surveys.ask_one.Goals as goal

pub returns-in_err-ask-clause-fault : goal.returns-in_err-ask-clause-fault
returns-in_err-ask-clause-fault g c =
    let p = err_from_is_err_and c.from_residual.result c.from_residual.ensures.1 in
    rw (p.1, p.2) (broken_one c.args.command c.in_err-ask.field-0.0 (g.B.Bus.log c.args.bus.now)
    (g.B.Bus.log c.ask.new.bus) c.in_err-ask.ensures.asked)

pub returns-in-Err-clause-fault : goal.returns-in-Err-clause-fault
returns-in-Err-clause-fault g c =
    broken_behind (IsSomeQuestion c.args.command)
    (record { command = c.args.command; outcome = c.outcome-outcome.result } ∷ []) (g.B.Bus.log c.args.bus.now)
    (g.B.Bus.log c.ask.new.bus)
    (answered_one c.args.command c.outcome-outcome.result c.in_ok-ask.field-0 (g.B.Bus.log c.args.bus.now)
    (g.B.Bus.log c.ask.new.bus) c.outcome-outcome.ensures.value c.in_ok-ask.ensures.asked)
    (record { outcome = c.outcome-outcome.result; question = record { is = refl } })

pub returns-in-Ok-clause-more : goal.returns-in-Ok-clause-more
returns-in-Ok-clause-more g c =
    record {
      more = record { command = c.args.command; outcome = c.outcome-outcome.result } ∷ [];
      is = c.in-Ok.ensures.items;
      asked = answered_one c.args.command c.outcome-outcome.result c.in_ok-ask.field-0 (g.B.Bus.log c.args.bus.now)
          (g.B.Bus.log c.ask.new.bus) c.outcome-outcome.ensures.value c.in_ok-ask.ensures.asked;
      those = record { is = refl };
    }
