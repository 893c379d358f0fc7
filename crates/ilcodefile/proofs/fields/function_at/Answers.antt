use Rattle.std.proofs.Common.{drop, ap, ◌∙◌}
use Rattle.std.proofs.lemmas.List.{drop-drop}
use Rattle.ilcodefile.proofs.FieldLaws.{function_read}
use Rattle.ilcodefile.proofs.fields.function_at.Goals as goal

pub returns-clause-exact : goal.returns-clause-exact
returns-clause-exact c =
    λ f more small e.
    function_read c.args.bytes.now more c.number_at-start.result.1.now c.number_at-first.result.1.now
    c.number_at-inputs.result.1.now c.number_at-slots.result.1.now c.number_at-start.result.0
    c.number_at-first.result.0 c.number_at-inputs.result.0 c.number_at-slots.result.0
    c.number_at-start.ensures.value c.number_at-start.ensures.rest
    c.number_at-first.ensures.value c.number_at-first.ensures.rest
    c.number_at-inputs.ensures.value c.number_at-inputs.ensures.rest
    c.number_at-slots.ensures.value c.number_at-slots.ensures.rest f small e

pub returns-clause-rest : goal.returns-clause-rest
returns-clause-rest c =
    c.number_at-slots.ensures.rest
    ∙ ap (drop 4) (c.number_at-inputs.ensures.rest
    ∙ ap (drop 4) (c.number_at-first.ensures.rest ∙ ap (drop 4) c.number_at-start.ensures.rest))
    ∙ ap (λ bs. drop 4 (drop 4 bs)) (drop-drop 4 4 c.args.bytes.now)
    ∙ ap (drop 4) (drop-drop 4 8 c.args.bytes.now) ∙ drop-drop 4 12 c.args.bytes.now
