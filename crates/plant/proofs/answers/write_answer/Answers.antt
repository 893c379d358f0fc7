use Rattle.std.proofs.Common.{refl, ap, ◌∙◌, arith}
use Rattle.std.specs.Prelude.{slice_index_or}
use Rattle.ilmachine.specs.Images.{Global, value_of}
use Rattle.plantevents.specs.Variables.{answerer_by, newest}
use Rattle.plantbuses.specs.AnswerSteps.{answer_at}
use Rattle.plant.specs.IndexSteps.{place_of}
use Rattle.plant.proofs.GivenInputs.{given_more, all_given}
use Rattle.plant.proofs.Indexed.{no_answer}
use Rattle.plant.proofs.answers.write_answer.Goals as goal

pub loop-i-preserved : goal.loop-i-preserved
loop-i-preserved c =
    let i = c.loop-i.i in let k = slice_index_or c.args.inputs.now i 0 in
    given_more (answer_at c.args.plan.now c.args.bus c.args.origin.now c.args.outcome) c.args.image.now c.loop-i.image
    c.give.new.image c.args.inputs.now i k refl c.loop-i.invariant c.give.ensures.layout
    (c.give.ensures.written
    ∙ ap (λ v. newest v (value_of c.loop-i.image (Global k))) c.answer_to-value.ensures.value)
    c.give.ensures.kept c.give.ensures.blocks

pub returns-clause-values : goal.returns-clause-values
returns-clause-values c =
    let plan = c.args.plan.now in let origin = c.args.origin.now in
    λ v. all_given (answer_at plan c.args.bus origin c.args.outcome) c.args.image.now c.loop-i.image plan c.args.bus
    c.args.inputs.now c.loop-i.i c.requires.inputs (omega arith) c.loop-i.invariant
    (λ g other. no_answer c.args.bus (answerer_by origin) c.args.outcome (place_of plan g) other) (λ t n. refl) v
