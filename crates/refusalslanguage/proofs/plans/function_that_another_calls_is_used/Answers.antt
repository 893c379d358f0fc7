use Rattle.std.proofs.Common.{◌≡◌, ◌∙◌, [], ◌∷◌, true, Option, IfSome, is_some, map, slice_get, subst}
use Rattle.ilplan.specs.Plans.{PlannedTask, used_functions}
use Rattle.refusalslanguage.proofs.Results.{if_ok}
use Rattle.refusalslanguage.proofs.plans.function_that_another_calls_is_used.Goals as goal

pub returns : goal.returns
returns c =
    let plan = c.args.plan.now in
    if_ok (λ used. IfSome (slice_get plan.tasks 0) (λ t. used.items ≡ map is_some (used_functions plan.functions t)))
    (λ used. used.items ≡ true ∷ true ∷ []) c.used_functions.result c.used_functions.ensures (λ used is.
    subst
    (λ (o : Option PlannedTask). IfSome o (λ t. used.items ≡ map is_some (used_functions plan.functions t)))
    c.requires.task is
    ∙ c.requires.both)
