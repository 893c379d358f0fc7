use Rattle.std.proofs.Common.{◌≡◌, ◌<◌, List, length, get_or, ap, sym, subst, ◌∙◌}
use Rattle.std.proofs.lemmas.List.{take_all}
use Rattle.ilsource.specs.Programs.{WrittenFunction}
use Rattle.ilsource.specs.declared.instruction.Line.{Line}
use Rattle.ilsource.specs.declared.name.Name.{Name}
use Rattle.ilsource.specs.declared.symbol.Symbol.{Symbol}
use Rattle.ildeclared.specs.Faults.{IsNextOf, SomeOf}
use Rattle.ildeclared.proofs.Least.{got_at, next_of_more}
use Rattle.ilscope.specs.Declarations.{declared_functions, DeclaredFunction}
use Rattle.ilscope.specs.UseFaults.{IsFaultInFunction}
use Rattle.ilscope.specs.Uses.{uses_of}
use Rattle.ilscope.proofs.uses.fault_in_functions.Goals as goal

pub loop-number-preserved : goal.loop-number-preserved
loop-number-preserved c =
    let tree = c.args.scope.now.tree in
    let functions = declared_functions tree in
    let listed : c.functions-function-items.result.now ≡ functions = c.functions-function-items.ensures.value in
    let below : c.loop-number.number < length functions = rw (sym listed) c.loop-number-test.true in
    let found : c.function-item.result ≡ get_or functions c.loop-number.number _ = rw (sym listed) c.function-item.is in
    let used : c.deref.result.now ≡ uses_of c.function-item.result.function.lines =
    c.deref.ensures.value
    ∙ c.in_ok-uses.ensures
    ∙ ap (λ (ls : List (Line Symbol Name)). uses_of ls)
    (c.lines.ensures.value ∙ ap (λ (w : WrittenFunction). w.lines) c.function.ensures.value)
    in
    rw c.lesser_of-least.ensures
    (next_of_more c.args.after (λ (f : DeclaredFunction). IsFaultInFunction tree f) functions c.loop-number.number
    c.function-item.result c.loop-number.least c.fault_in_function-fault.result below found c.loop-number.invariant
    (c.fault_in_function-fault.ensures c.function-item.result
    (got_at functions c.loop-number.number c.function-item.result below found) used))

pub returns : goal.returns
returns c =
    let tree = c.args.scope.now.tree in
    subst (λ (fs : List DeclaredFunction). IsNextOf c.args.after
    (λ place cause. SomeOf (λ f. IsFaultInFunction tree f place cause) fs) c.loop-number.least)
    (take_all c.loop-number.number (declared_functions tree)
    (rw (sym c.functions-function-items.ensures.value) c.loop-number-test.false))
    c.loop-number.invariant
