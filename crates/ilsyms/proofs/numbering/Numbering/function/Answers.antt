use Rattle.std.proofs.Common.{List, length, ap, arith, sym, ◌∙◌}
use Rattle.std.specs.Prelude.{bytes_eq}
use Rattle.ilsource.specs.Names.{folded}
use Rattle.ilscope.specs.Declarations.{DeclaredFunction, declared_functions}
use Rattle.ilsyms.proofs.Lists.{first_below}
use Rattle.ilsyms.proofs.numbering.Numbering.function.Goals as goal

pub overflow_cast-result : goal.overflow_cast-result
overflow_cast-result c =
    let tree = c.self.inside.scope.now.tree in
    let spelled = folded tree.text in
    let is = sym c.function_number.ensures.value ∙ c.in-Some.is in
    let below = first_below (λ (x : DeclaredFunction). bytes_eq (spelled c.args.name) (spelled x.function.name))
    (declared_functions tree) c.in-Some.number is
    in
    omega (arith, below, c.self.invariant.few_functions)

pub overflow_cast-result-in-None : goal.overflow_cast-result-in-None
overflow_cast-result-in-None c =
    let all = ap (λ (fs : List DeclaredFunction). length fs) c.functions.ensures.value in
    omega (arith, all, c.self.invariant.few_functions)
