use Rattle.std.proofs.Common.{inl, inr}
use Rattle.std.proofs.lemmas.Result.{err_from_is_err_and}
use Rattle.commissioning.proofs.probing.probe.Goals as goal

pub returns-in_err-survey-clause-fault : goal.returns-in_err-survey-clause-fault
returns-in_err-survey-clause-fault g c =
    let p = err_from_is_err_and c.from_residual.result c.from_residual.ensures.1 in
    rw (p.1, p.2) (inl c.in_err-survey.ensures.fault)

pub returns-in_err-unaddressed-clause-fault : goal.returns-in_err-unaddressed-clause-fault
returns-in_err-unaddressed-clause-fault g c =
    let p = err_from_is_err_and c.from_residual-in_err-unaddressed.result
    c.from_residual-in_err-unaddressed.ensures.1 in
    rw (p.1, p.2) (inr (record {
      survey = c.in_ok-survey.survey;
      middle = g.B.Bus.log c.make_survey.new.bus;
      surveyed = record { is = c.in_ok-survey.ensures.survey.0; answered = c.in_ok-survey.ensures.survey.1 };
      unanswered = c.in_err-unaddressed.ensures.fault;
    }))

pub returns-clause-probed : goal.returns-clause-probed
returns-clause-probed g c = record {
  middle = g.B.Bus.log c.make_survey.new.bus;
  surveyed = record { is = c.in_ok-survey.ensures.survey.0; answered = c.in_ok-survey.ensures.survey.1 };
  unaddressed = c.in_ok-unaddressed.ensures.asked;
}
