use Rattle.std.proofs.Common.{◌≡◌, ◌∙◌, List, [], ◌∷◌, ap, map, true}
use Rattle.ilblocks.specs.Stores.{Lasting}
use Rattle.iltypes.specs.declared.value.Value.TheVariants as values
use Rattle.livekeep.specs.KeptPlans.{task_firsts}
use Rattle.refusalslanguage.proofs.KeptVariables.{own_slot}
use Rattle.refusalslanguage.proofs.Results.{if_ok}
use Rattle.refusalslanguage.proofs.kept.variable_of_an_instance_begins_as_kept.Goals as goal

pub returns : goal.returns
returns c =
    let plan = c.args.plan.now in
    let kept = c.args.kept.now.values in
    if_ok (λ begun. begun.tasks.items ≡ task_firsts plan kept)
    (λ begun. map (λ (s : Lasting). s.slots) begun.tasks.items ≡ (values.Bool true ∷ []) ∷ []) c.first_values_of.result
    c.first_values_of.ensures.tasks (λ begun is.
    ap (λ (states : List Lasting). map (λ (s : Lasting). s.slots) states) is
    ∙ own_slot plan kept c.args.task.now c.args.slot c.args.instance c.args.name c.args.value.now c.requires.tasks
    c.requires.slots c.requires.variable c.requires.kind c.requires.kept c.requires.name c.requires.lit)
