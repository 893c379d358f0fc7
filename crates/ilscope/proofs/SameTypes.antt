-- What `!=` says of two types.
use Rattle.std.proofs.Common.{◌≡◌, Bool, true, false, not, refl, sym, subst}
use Rattle.std.specs.Prelude.{◌↔◌, ◌≢◌, IsTrue}
use Rattle.iltypes.specs.contracts.value.IlTypePartialEq.TheImpl as type_eq
use Rattle.iltypes.specs.declared.value.IlType.{IlType}
use Rattle.iltypes.proofs.Equality.{same_type}

not_both : (answer test : Bool) → answer ≡ not test → IsTrue answer → test ≡ true → ⊥
not_both true test e f g = absurd cc
not_both false test e f g = absurd cc

other_so : (answer test : Bool) → answer ≡ not test → ¬ (test ≡ true) → IsTrue answer
other_so answer true e f = absurd (f refl)
other_so answer false e f = subst IsTrue (sym e) refl

pub types_differ : (a b : IlType) (answer : Bool) → answer ≡ not (type_eq.eq-value.it a b)
    → IsTrue answer ↔ (a ≢ b)
types_differ a b answer e = (
  λ t g. not_both answer (type_eq.eq-value.it a b) e t ((same_type a b).1 g),
  λ f. other_so answer (type_eq.eq-value.it a b) e (λ g. f ((same_type a b).0 g)),
)
