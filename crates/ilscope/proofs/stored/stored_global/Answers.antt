use Rattle.std.proofs.Common.{◌≡◌, ℕ, sym, ap, ◌∙◌, subst}
use Rattle.std.specs.Prelude.{◌↔◌, Option, Some, option_and_then}
use Rattle.ilsource.specs.declared.name.Name.{Name}
use Rattle.ilscope.specs.Configured.{global_number}
use Rattle.ilscope.specs.UseFaults.{StoresTo}
use Rattle.ilscope.proofs.StoredExternals.{global_stored}
use Rattle.ilscope.proofs.stored.stored_global.Goals as goal

pub returns-in_err-stored_external : goal.returns-in_err-stored_external
returns-in_err-stored_external c p at global =
    let tree = c.args.scope.now.tree in
    let is : option_and_then (global_number tree) c.stored_external.result ≡ c.from_residual.result =
    ap (λ (o : Option Name). option_and_then (global_number tree) o) c.in_err-stored_external.was
    ∙ sym c.from_residual.ensures in
    subst (λ (o : Option ℕ). (o ≡ Some global) ↔ StoresTo tree global p c.args.used) is
    (global_stored tree p c.args.used c.stored_external.result (c.stored_external.ensures p at) global)

pub returns : goal.returns
returns c p at global =
    let tree = c.args.scope.now.tree in
    let is : option_and_then (global_number tree) c.stored_external.result ≡ c.global_number.result =
    ap (λ (o : Option Name). option_and_then (global_number tree) o) c.in_ok-stored_external.was
    ∙ sym c.global_number.ensures.value in
    subst (λ (o : Option ℕ). (o ≡ Some global) ↔ StoresTo tree global p c.args.used) is
    (global_stored tree p c.args.used c.stored_external.result (c.stored_external.ensures p at) global)
