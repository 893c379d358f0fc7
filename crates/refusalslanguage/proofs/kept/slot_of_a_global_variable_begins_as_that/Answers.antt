use Rattle.std.proofs.Common.{◌≡◌, ◌∙◌, List, [], ◌∷◌, ap, map, true}
use Rattle.ilblocks.specs.Stores.{Lasting}
use Rattle.iltypes.specs.declared.value.Value.TheVariants as values
use Rattle.livekeep.specs.KeptPlans.{task_firsts}
use Rattle.refusalslanguage.proofs.KeptVariables.{global_slot}
use Rattle.refusalslanguage.proofs.Results.{if_ok}
use Rattle.refusalslanguage.proofs.kept.slot_of_a_global_variable_begins_as_that.Goals as goal

pub returns : goal.returns
returns c =
    let plan = c.args.plan.now in
    let kept = c.args.kept.now.values in
    if_ok (λ begun. begun.tasks.items ≡ task_firsts plan kept)
    (λ begun. map (λ (s : Lasting). s.slots) begun.tasks.items ≡ (values.Bool true ∷ []) ∷ []) c.first_values_of.result
    c.first_values_of.ensures.tasks (λ begun is.
    ap (λ (states : List Lasting). map (λ (s : Lasting). s.slots) states) is
    ∙ global_slot plan kept c.args.lamp c.args.task.now c.args.slot c.args.value.now c.requires.globals
    c.requires.tasks c.requires.slots c.requires.variable c.requires.kept c.requires.kind.0 c.requires.kind.1
    c.requires.name c.requires.lit)
