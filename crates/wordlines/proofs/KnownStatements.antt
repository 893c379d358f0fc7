-- Tests of what was declared.
use Rattle.std.proofs.Common.{◌≡◌, ◌↔◌, ◌∙◌, Bool, true, false, List, refl, sym, subst}
use Rattle.std.specs.Prelude.{IsTrue, not}
use Rattle.wordlines.specs.Following.{IsKnown}
use Rattle.wordlines.specs.declared.statements.Statement.{Statement}

pub known_as : (before : List Statement) (statement form : Statement) → statement ≡ form → (test : Bool)
    → IsTrue test ↔ IsKnown before form
    → IsTrue test ↔ IsKnown before statement
known_as before statement form is test known = subst (λ (e : Statement). IsTrue test ↔ IsKnown before e) (sym is) known

pub has : (test found : Bool) → test ≡ found → IsTrue test ↔ (found ≡ true)
has test found same = (λ t. sym same ∙ t, λ f. same ∙ f)

not_true : false ≡ true → ⊥
not_true h = cc

pub lacks : (test found : Bool) → test ≡ found → IsTrue (not test) ↔ (found ≡ false)
lacks true true same = (λ t. absurd (not_true t), λ f. absurd (not_true (sym f)))
lacks true false same = absurd (not_true (sym same))
lacks false true same = absurd (not_true same)
lacks false false same = (λ t. refl, λ f. refl)

pub lacks_in : (test found owner : Bool) → owner ≡ true → test ≡ found
    → IsTrue (not test) ↔ ((owner ≡ true) × (found ≡ false))
lacks_in test found owner there same =
    let lacking = lacks test found same in
    (λ t. (there, lacking.0 t), λ p. lacking.1 p.1)
