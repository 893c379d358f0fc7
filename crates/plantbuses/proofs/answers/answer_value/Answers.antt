use Rattle.std.proofs.Common.{sym, ◌∙◌}
use Rattle.plantbuses.proofs.Answering.{answer_fits}
use Rattle.plantbuses.proofs.answers.answer_value.Goals as goal

pub returns-then-is_answer_of-clause-in_type : goal.returns-then-is_answer_of-clause-in_type
returns-then-is_answer_of-clause-in_type c =
    answer_fits c.args.bus c.args.answerer c.args.location c.outcome_value.result c.outcome_value.ensures.fits
    (sym c.is_answer_of.ensures.value ∙ c.if-is_answer_of.true)
