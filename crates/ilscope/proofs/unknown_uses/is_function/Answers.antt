use Rattle.std.proofs.Common.{◌≡◌, ◌∙◌, ap, sym}
use Rattle.std.specs.Prelude.{Bool, Option, is_some}
use Rattle.ilscope.specs.Declarations.{DeclaredFunction}
use Rattle.ilscope.proofs.LeastOfDeclarations.{some_of}
use Rattle.ilscope.specs.UseFaults.{function_called, functions_above}
use Rattle.ilscope.specs.SameNames.{same_name}
use Rattle.ilscope.proofs.FunctionsFound.{found_passes, passes_found, same_some}
use Rattle.ilscope.proofs.SameNames.{alike, same_as}
use Rattle.ilscope.proofs.unknown_uses.is_function.Goals as goal

pub returns : goal.returns
returns c p at =
    let tree = c.args.scope.now.tree in
    let name = c.args.name in
    let test : DeclaredFunction → Bool = λ f. same_name tree.text name f.function.name in
    let found : is_some c.function_called.result ≡ is_some (function_called tree p name) =
    sym (same_some _ c.function_called.result)
    ∙ ap (λ (o : Option DeclaredFunction). is_some o) (c.function_called.ensures p at)
    in (
      (λ is. some_of (λ f same. alike tree.text name f.function.name same) (functions_above tree p)
          (found_passes test (functions_above tree p) (sym found ∙ (sym c.is_some.ensures ∙ is)))),
      (λ some. c.is_some.ensures ∙ (found ∙ passes_found test (functions_above tree p)
          (some_of (λ f same. same_as tree.text name f.function.name same) (functions_above tree p) some))),
    )
