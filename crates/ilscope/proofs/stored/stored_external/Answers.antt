use Rattle.std.proofs.Common.{refl, sym, ◌∙◌}
use Rattle.std.specs.Prelude.{IsNone}
use Rattle.ilscope.proofs.StoredExternals.{external_there, no_external, no_name, the_external}
use Rattle.ilscope.proofs.stored.stored_external.Goals as goal

pub returns-in_err-name : goal.returns-in_err-name
returns-in_err-name c p at name =
    rw c.from_residual.ensures
    (no_name c.args.scope.now.tree.text p c.args.used (sym c.stored_name.ensures ∙ c.in_err-name.was) name)

pub returns-then-is_some : goal.returns-then-is_some
returns-then-is_some c p at =
    no_external c.args.scope.now.tree.text p c.args.used c.in_ok-name.name
    (sym c.stored_name.ensures ∙ c.in_ok-name.was)
    (λ is. let none = (c.variable_number.ensures.none p at).1 is.0 in
    absurd (cc (none, c.is_some.ensures, c.if-is_some.true)))

pub returns-in_err-external_number : goal.returns-in_err-external_number
returns-in_err-external_number c p at name =
    let none : IsNone c.external_number.result = rw c.in_err-external_number.was refl in
    rw c.from_residual-in_err-external_number.ensures
    (no_external c.args.scope.now.tree.text p c.args.used c.in_ok-name.name
    (sym c.stored_name.ensures ∙ c.in_ok-name.was)
    (λ is. (c.external_number.ensures.none p at).0 none is.1) name)

pub returns : goal.returns
returns c p at =
    let text = c.args.scope.now.tree.text in
    the_external text p c.args.used c.in_ok-name.name (sym c.stored_name.ensures ∙ c.in_ok-name.was) (
      (c.variable_number.ensures.none p at).0 (sym c.is_some.ensures ∙ c.if-is_some.false),
      external_there text c.in_ok-name.name p.externals c.in_ok-external_number.field-0
          (sym (c.external_number.ensures.value p at) ∙ c.in_ok-external_number.was),
    )
