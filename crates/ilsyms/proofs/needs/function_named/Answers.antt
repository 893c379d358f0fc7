use Rattle.std.proofs.Common.{◌≡◌, List, length, ap, sym, ◌∙◌}
use Rattle.std.specs.Prelude.{Some, option_map, unwrap_or}
use Rattle.ilsource.specs.declared.operand.Operand.TheVariants.{Name as Named}
use Rattle.ilsource.specs.declared.symbol.Symbol.TheVariants.{Function}
use Rattle.ilscope.specs.Declarations.{DeclaredFunction, declared_functions}
use Rattle.ilscope.specs.SameNames.{same_name}
use Rattle.ilsyms.specs.FunctionSteps.{invoked_name}
use Rattle.ilsyms.specs.Meaning.{function_in_text}
use Rattle.ilsyms.proofs.NumberingLabels.{first_or_end}
use Rattle.ilsyms.proofs.needs.function_named.Goals as goal

pub returns : goal.returns
returns c =
    let tree = c.args.scope.now.tree in
    let name = c.in-Invoke-Name-Function.name in
    let what : c.args.used.operand ≡ Named (Function name) = cc in
    let many = ap (λ (fs : List DeclaredFunction). length fs) c.functions.ensures.value in
    let number : c.unwrap_or.result ≡ function_in_text tree name =
    c.unwrap_or.ensures ∙ (λ i. unwrap_or (c.function_number-number.ensures.value i) (many i))
    ∙ first_or_end (λ (f : DeclaredFunction). same_name tree.text name f.function.name) (declared_functions tree) in
    ap (λ n. Some n) number
    ∙ sym (λ i. option_map (function_in_text tree) (invoked_name (c.in-Invoke-Name-Function.is-0 i) (what i)))
