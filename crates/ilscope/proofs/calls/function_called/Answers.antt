use Rattle.std.proofs.Common.{◌≡◌, ◌∙◌, ℕ, List, Bool, ap, arith, length, sym}
use Rattle.std.specs.Prelude.{Some, bytes_eq, option_map, slice_get}
use Rattle.ilsource.specs.Names.{folded}
use Rattle.ilsource.specs.declared.name.Name.{Name}
use Rattle.ilscope.specs.Declarations.{DeclaredFunction, declared_functions}
use Rattle.ilscope.specs.Tables.{first_at}
use Rattle.ilscope.proofs.Declared.{first_below}
use Rattle.ilscope.proofs.FunctionsFound.{first_none, first_past, first_within, read_at}
use Rattle.ilscope.proofs.calls.function_called.Goals as goal

-- a function of the name
abbrev test_of : (text : List ℕ) (name : Name) → DeclaredFunction → Bool
test_of text name f = bytes_eq (folded text name) (folded text f.function.name)

pub returns-in_err-number : goal.returns-in_err-number
returns-in_err-number c p at =
    let tree = c.args.scope.now.tree in
    ap (λ o. option_map (λ f. f.now) o) c.from_residual.ensures
    ∙ sym (first_none (test_of tree.text c.args.name) p.functions (declared_functions tree)
    (sym c.function_number.ensures.value ∙ c.in_err-number.was))

pub returns-else-number-functions_above : goal.returns-else-number-functions_above
returns-else-number-functions_above c p at =
    let tree = c.args.scope.now.tree in
    let above = c.functions_above.ensures p at in
    let test = c.if-number-functions_above.false in
    sym (first_past (test_of tree.text c.args.name) p.functions c.in_ok-number.number (declared_functions tree)
    (sym c.function_number.ensures.value ∙ c.in_ok-number.was) (omega (arith, above, test)))

pub returns-then-number-functions_above : goal.returns-then-number-functions_above
returns-then-number-functions_above c p at =
    let tree = c.args.scope.now.tree in
    let functions = declared_functions tree in
    let number = c.in_ok-number.number in
    let test : DeclaredFunction → Bool = test_of tree.text c.args.name in
    let found : first_at test functions ≡ Some number = sym c.function_number.ensures.value ∙ c.in_ok-number.was in
    let listed : c.functions.result.now ≡ functions = c.functions.ensures.value in
    let many : length c.functions.result.now ≡ length functions =
    ap (λ (fs : List DeclaredFunction). length fs) listed
    in
    let there = first_below test functions number found in
    let above = c.functions_above.ensures p at in
    let within = c.if-number-functions_above.true in
    read_at (λ f. f.now) c.functions.result.now number c.get.result c.get.ensures.lookup.2 c.get.ensures.lookup.1
    (omega (arith, many, there))
    ∙ ap (λ (fs : List DeclaredFunction). slice_get fs number) listed
    ∙ sym (first_within test p.functions number functions found (omega (arith, above, within)))
