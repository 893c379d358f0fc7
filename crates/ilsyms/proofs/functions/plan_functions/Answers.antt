use Rattle.std.proofs.Common.{◌∙◌, List, [], sym, subst}
use Rattle.std.proofs.lemmas.List.{take-map}
use Rattle.ilscope.specs.Declarations.{declared_functions}
use Rattle.ilplan.specs.Functions.{PlannedFunction}
use Rattle.ilplan.specs.Plans.{AreFunctions, IsFunction}
use Rattle.ilsyms.specs.Resolved.{planned_function}
use Rattle.ilsyms.proofs.PlanFunctions.{functions_more}
use Rattle.ilsyms.proofs.PlanTasks.{one_planned}
use Rattle.ilsyms.proofs.functions.plan_functions.Goals as goal

pub loop-number-preserved : goal.loop-number-preserved
loop-number-preserved c =
    let tree = c.args.scope.now.tree in
    let all = declared_functions tree in
    let number = c.loop-number.number in
    let planned = c.loop-number.functions.items in
    let one = c.in_ok-plan_function.field-0 in
    let so_far = c.loop-number.invariant.functions in
    record {
      functions =
          c.in_ok-push.ensures.items
          ∙ one_planned (planned_function tree) all number planned one so_far c.in_ok-plan_function.ensures.function;
      lawful =
          subst (AreFunctions []) (sym c.in_ok-push.ensures.items)
          (functions_more [] planned one c.loop-number.invariant.lawful
          (subst (λ (before : List PlannedFunction). IsFunction before one)
          (sym (so_far ∙ sym (take-map (planned_function tree) number all)))
          c.in_ok-plan_function.ensures.lawful));
    }
