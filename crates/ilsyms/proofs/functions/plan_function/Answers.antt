use Rattle.std.proofs.Common.{◌≡◌, ◌∙◌, List, length, map, take, ap, sym, arith, subst}
use Rattle.std.specs.Prelude.{Some, slice_get}
use Rattle.ilsource.specs.Programs.{WrittenFunction}
use Rattle.ildeclared.proofs.Least.{got_at}
use Rattle.ilscope.specs.Declarations.{DeclaredFunction, declared_functions}
use Rattle.ilplan.specs.Functions.{PlannedFunction, function_of}
use Rattle.ilplan.specs.Plans.{IsFunction}
use Rattle.ilsyms.specs.Resolved.{planned_function, planned_functions, planned_input, planned_variable}
use Rattle.ilsyms.proofs.PlanFunctions.{is_function}
use Rattle.ilsyms.proofs.functions.plan_function.Goals as goal

pub returns-clause-lawful : goal.returns-clause-lawful
returns-clause-lawful c =
    let tree = c.args.scope.now.tree in
    let f = c.index-functions-number.result in
    let all = ap (λ (fs : List DeclaredFunction). length fs) c.functions.ensures.value in
    let there : slice_get (declared_functions tree) c.args.number ≡ Some f =
    ap (λ (fs : List DeclaredFunction). slice_get fs c.args.number) (sym c.functions.ensures.value)
    ∙ got_at c.functions.result.now c.args.number f (omega (arith, c.requires.there, all)) c.index-functions-number.is
    in
    let name = c.name.ensures ∙ ap (λ (w : WrittenFunction). w.name) c.function-written.ensures.value in
    let at = c.at.ensures ∙ ap (λ (w : WrittenFunction). w.at) c.function-written.ensures.value in
    let inputs = c.in_ok-inputs.ensures ∙ ap (map planned_input) c.inputs.ensures.value in
    let variables = c.in_ok-variables.ensures ∙ ap (map planned_variable) c.variables.ensures.value in
    let whole : c.new.result ≡ planned_function tree f =
    c.new.ensures
    ∙ (λ i. function_of (name i) (at i) (inputs i) (variables i) (c.in_ok-lines.ensures.lines i))
    in
    subst (λ (g : PlannedFunction). IsFunction (take c.args.number (planned_functions tree)) g) (sym whole)
    (is_function tree c.args.scope.now.wiring c.requires.named c.args.number f there c.in_ok-lines.ensures.shallow
    c.in_ok-lines.ensures.sorted)
