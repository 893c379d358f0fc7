use Rattle.std.proofs.Common.{◌≡◌, sym, subst}
use Rattle.std.specs.Prelude.{IsTrue, Option}
use Rattle.ildeclared.specs.Faults.{IsNextOf, OfCause}
use Rattle.ildeclared.specs.declared.fault.NameCause.TheVariants.{WritesInput}
use Rattle.ildeclared.specs.declared.found.Found.{Found}
use Rattle.ildeclared.proofs.OneCause.{found_same}
use Rattle.ilscope.specs.UseFaults.{StoresToInput}
use Rattle.ilscope.proofs.StoredExternals.{input_stored, no_input}
use Rattle.ilscope.proofs.stored.input_written.Goals as goal

pub returns-in_err-name : goal.returns-in_err-name
returns-in_err-name c p at =
    let tree = c.args.scope.now.tree in
    subst (λ (o : Option Found).
    IsNextOf c.args.after (OfCause WritesInput (λ place. StoresToInput tree p place c.args.used)) o)
    (sym c.from_residual.ensures)
    (no_input tree p c.args.used c.stored_external.result (c.stored_external.ensures p at) c.args.after
    (λ name is. let none = c.in_err-name.was in absurd cc))

pub returns : goal.returns
returns c p at =
    let tree = c.args.scope.now.tree in
    let name = c.in_ok-name.name in
    let stored = input_stored tree p c.args.used c.stored_external.result (c.stored_external.ensures p at) name
    c.in_ok-name.was
    in
    found_same c.args.after WritesInput (λ place. IsTrue c.is_named_input.result × (place ≡ name.from))
    (λ place. StoresToInput tree p place c.args.used) c.found_where.result
    (λ place. (
      (λ h. (stored place).0 (c.is_named_input.ensures.0 h.0, h.1)),
      (λ f. let t = (stored place).1 f in (c.is_named_input.ensures.1 t.0, t.1)),
    )) c.found_where.ensures
