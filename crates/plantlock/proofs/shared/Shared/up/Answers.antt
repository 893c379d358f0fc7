use Rattle.std.proofs.Common.{◌∙◌}
use Rattle.plantlock.specs.Answers.{IsAnswered}
use Rattle.plantlock.proofs.Answered.{answered, does}
use Rattle.plantlock.proofs.shared.Shared.up.Goals as goal

pub returns-clause-answered : goal.returns-clause-answered
unfolding IsAnswered
returns-clause-answered g c =
    answered c.meet.ensures.under (c.deref_mut-2.ensures.value ∙ c.meet.ensures.same.0)
    c.up-answer.ensures.refused
    (does c.up-answer.result _ _ _ c.up-answer.ensures.event c.up-answer.ensures.err)
    c.deref_mut-3.ensures.value c.meet-2.ensures.under c.meet-2.ensures.same.1
