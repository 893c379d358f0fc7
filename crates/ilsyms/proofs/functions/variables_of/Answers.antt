use Rattle.std.proofs.Common.{◌∙◌, ◌++◌, [], ◌∷◌, List, ap, sym, map, take}
use Rattle.std.proofs.lemmas.List.{map-append}
use Rattle.ildeclared.proofs.Least.{take_more}
use Rattle.ilplan.specs.declared.function.FunctionVariable.{FunctionVariable}
use Rattle.ilsyms.specs.Resolved.{planned_variable}
use Rattle.ilsyms.proofs.functions.variables_of.Goals as goal

pub loop-variable-preserved : goal.loop-variable-preserved
loop-variable-preserved c =
    let all = c.args.variables.now in
    let number = c.loop-variable.variable-index in
    let one = c.variable-item.result in
    c.in_ok-push.ensures.items
    ∙ ap (λ (vs : List FunctionVariable). vs ++ planned_variable one ∷ []) c.loop-variable.invariant
    ∙ sym (map-append planned_variable (take number all) (one ∷ []))
    ∙ ap (map planned_variable) (sym (take_more all number one c.loop-variable-test.true c.variable-item.is))
