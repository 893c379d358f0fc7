use Rattle.std.proofs.Common.{◌≡◌, ◌∙◌, [], ◌∷◌}
use Rattle.livekeep.specs.KeptPlans.{left_out_of}
use Rattle.refusalslanguage.proofs.KeptVariables.{left_out}
use Rattle.refusalslanguage.proofs.Results.{if_ok}
use Rattle.refusalslanguage.proofs.kept.value_of_another_type_is_left_out.Goals as goal

pub returns : goal.returns
returns c =
    let plan = c.args.plan.now in
    let kept = c.args.kept.now.values in
    if_ok (λ left. left.items ≡ left_out_of kept plan) (λ left. left.items ≡ c.args.value.now ∷ []) c.left_out_of.result
    c.left_out_of.ensures (λ left is.
    is ∙ left_out plan kept c.args.lamp c.args.value.now c.requires.globals c.requires.tasks c.requires.kept
    c.requires.kind.0 c.requires.kind.1 c.requires.number)
