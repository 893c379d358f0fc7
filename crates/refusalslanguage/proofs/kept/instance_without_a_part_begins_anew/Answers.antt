use Rattle.std.proofs.Common.{◌≡◌, ◌∙◌, List, [], ◌∷◌, ap, map}
use Rattle.ilblocks.specs.Calls.{at_first}
use Rattle.ilblocks.specs.Stores.{Lasting}
use Rattle.livekeep.specs.KeptPlans.{task_firsts}
use Rattle.refusalslanguage.proofs.KeptVariables.{new_instance}
use Rattle.refusalslanguage.proofs.Results.{if_ok}
use Rattle.refusalslanguage.proofs.kept.instance_without_a_part_begins_anew.Goals as goal

pub returns : goal.returns
returns c =
    let plan = c.args.plan.now in
    let kept = c.args.kept.now.values in
    if_ok (λ begun. begun.tasks.items ≡ task_firsts plan kept)
    (λ begun. map (λ (s : Lasting). s.blocks) begun.tasks.items ≡ (at_first c.args.block.kind ∷ []) ∷ []) c.first_values_of.result
    c.first_values_of.ensures.tasks (λ begun is.
    ap (λ (states : List Lasting). map (λ (s : Lasting). s.blocks) states) is
    ∙ new_instance plan kept c.args.task.now c.args.block c.requires.tasks c.requires.blocks c.requires.kept)
