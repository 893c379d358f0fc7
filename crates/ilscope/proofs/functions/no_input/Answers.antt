use Rattle.std.proofs.Common.{◌≡◌, ◌∙◌, ◌==◌, ℕ, List, [], ◌∷◌, length, ap, refl, sym, Bool, arith}
use Rattle.std.specs.Prelude.{◌↔◌, IsTrue}
use Rattle.std.proofs.lemmas.Bool.Decides.{nat_tests}
use Rattle.ilsource.specs.Programs.{WrittenFunction}
use Rattle.ilsource.specs.declared.name.Name.{Name}
use Rattle.ildeclared.specs.declared.fault.NameCause.TheVariants.{BadDeclaration}
use Rattle.ildeclared.specs.declared.variable.DeclaredVariable.{DeclaredVariable}
use Rattle.ildeclared.proofs.OneCause.{found_same}
use Rattle.ilscope.specs.Faults.{HasNoInput}
use Rattle.ilscope.proofs.functions.no_input.Goals as goal

-- a list of length 0 has no element
none_there : (xs : List DeclaredVariable) (b : Bool) → b ≡ (length xs == 0) → IsTrue b → xs ≡ []
none_there [] b e t = refl
none_there (x ∷ xs) b e t = absurd (grind (arith, nat_tests))

has_none : (xs : List DeclaredVariable) (b : Bool) → b ≡ (length xs == 0) → xs ≡ [] → IsTrue b
has_none [] b e h = rw e refl
has_none (x ∷ xs) b e h = absurd cc

pub returns : goal.returns
returns c =
    let f = c.args.function.now in
    let is : c.is_empty.result ≡ (length f.inputs == 0) =
    c.is_empty.ensures ∙ ap (λ (vs : List DeclaredVariable). length vs == 0) c.inputs.ensures.value
    in
    let at_name : c.name.result.from ≡ f.function.name.from =
    ap (λ (n : Name). n.from) (c.name.ensures ∙ ap (λ (g : WrittenFunction). g.name) c.function.ensures.value)
    in
    found_same c.args.after BadDeclaration (λ place. IsTrue c.is_empty.result × (place ≡ c.name.result.from))
    (λ place. HasNoInput place f) c.found_where.result
    (λ place. (
      (λ h. (none_there f.inputs c.is_empty.result is h.0, h.1 ∙ at_name)),
      (λ h. (has_none f.inputs c.is_empty.result is h.0, h.1 ∙ sym at_name)),
    ))
    c.found_where.ensures
