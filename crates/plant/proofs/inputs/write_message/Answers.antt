use Rattle.std.proofs.Common.{refl, sym, ap, subst, ◌∙◌, arith}
use Rattle.std.specs.Prelude.{slice_index_or}
use Rattle.ilmachine.specs.Images.{Global, value_of}
use Rattle.plantevents.specs.Variables.{newest}
use Rattle.plant.specs.IndexSteps.{AreInputsOf, place_of}
use Rattle.plant.specs.InputSteps.{input_at}
use Rattle.plant.proofs.GivenInputs.{given_more, all_given}
use Rattle.plant.proofs.Indexed.{nothing_written}
use Rattle.plant.proofs.inputs.write_message.Goals as goal

pub loop-i-preserved : goal.loop-i-preserved
loop-i-preserved c =
    let i = c.loop-i.i in let k = slice_index_or c.numbers-numbers.result.now i 0 in
    given_more (input_at c.args.plan.now c.args.counts.now c.args.bus c.args.frame) c.args.image.now c.loop-i.image
    c.give.new.image c.numbers-numbers.result.now i k refl c.loop-i.invariant c.give.ensures.layout
    (c.give.ensures.written
    ∙ ap (λ v. newest v (value_of c.loop-i.image (Global k))) c.message_to-value.ensures.value)
    c.give.ensures.kept c.give.ensures.blocks

pub returns-clause-values : goal.returns-clause-values
returns-clause-values c =
    let plan = c.args.plan.now in
    let located = subst (AreInputsOf plan c.args.bus) (sym c.numbers-numbers.ensures) c.requires.inputs.located in
    λ v. all_given (input_at plan c.args.counts.now c.args.bus c.args.frame) c.args.image.now c.loop-i.image plan
    c.args.bus c.numbers-numbers.result.now c.loop-i.i located (omega arith) c.loop-i.invariant
    (λ g other. nothing_written plan.sources c.args.counts.now c.args.bus c.args.frame (place_of plan g) other)
    (λ t n. refl) v
