use Rattle.std.proofs.Common.{◌≡◌, ◌∙◌, []}
use Rattle.livekeep.specs.KeptPlans.{left_out_of}
use Rattle.refusalslanguage.proofs.Results.{if_ok}
use Rattle.refusalslanguage.proofs.kept.parts_with_which_an_instance_begins_are_not_left_out.Goals as goal

pub returns : goal.returns
returns c =
    if_ok (λ left. left.items ≡ left_out_of c.args.kept.now.values c.args.plan.now) (λ left. left.items ≡ [])
    c.left_out_of.result c.left_out_of.ensures (λ left is. is ∙ c.requires)
