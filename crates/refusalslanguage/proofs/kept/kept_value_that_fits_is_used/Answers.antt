use Rattle.std.proofs.Common.{◌≡◌, ◌∙◌, List, [], ◌∷◌, true}
use Rattle.iltypes.specs.declared.value.Value.{Value}
use Rattle.iltypes.specs.declared.value.Value.TheVariants as values
use Rattle.livekeep.specs.KeptPlans.{global_firsts}
use Rattle.refusalslanguage.proofs.KeptVariables.{firsts_true}
use Rattle.refusalslanguage.proofs.Results.{if_ok}
use Rattle.refusalslanguage.proofs.kept.kept_value_that_fits_is_used.Goals as goal

pub returns : goal.returns
returns c =
    let plan = c.args.plan.now in
    let kept = c.args.kept.now.values in
    if_ok (λ begun. begun.globals.items ≡ global_firsts plan kept)
    (λ begun. begun.globals.items ≡ values.Bool true ∷ []) c.first_values_of.result c.first_values_of.ensures.globals
    (λ begun is.
    is ∙ firsts_true plan kept c.args.lamp c.args.value.now c.requires.globals c.requires.kept c.requires.kind.0
    c.requires.kind.1 c.requires.name c.requires.lit)
