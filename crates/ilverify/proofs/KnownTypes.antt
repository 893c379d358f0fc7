-- What is known of a value is just that it is of a type, as Rust compares types.
use Rattle.std.proofs.Common.{◌≡◌, ◌∙◌, Bool, refl, sym, ap}
use Rattle.std.specs.Prelude.{IsTrue, ◌↔◌}
use Rattle.iltypes.specs.contracts.value.IlTypePartialEq.TheImpl as type_eq
use Rattle.iltypes.specs.declared.range.Range.{Range}
use Rattle.iltypes.specs.declared.value.IlType.{IlType}
use Rattle.iltypes.specs.declared.value.IlType.TheVariants as types
use Rattle.iltypes.proofs.Equality.{same_type}
use Rattle.ilverify.specs.declared.known.Known.TheVariants as knowns
use Rattle.ilverify.specs.Knowns.{known_of_type}

pub says_truth : (declared : IlType) (answer : Bool) → answer ≡ type_eq.eq-value.it declared types.Bool
    → IsTrue answer ↔ (knowns.Bool ≡ known_of_type declared)
says_truth types.Bool answer e = (λ t. refl, λ k. e ∙ (same_type types.Bool types.Bool).1 refl)
says_truth (types.Int d) answer e =
    (λ t. let p = (same_type (types.Int d) types.Bool).0 (sym e ∙ t) in absurd (cc), λ k. absurd (cc))

pub says_range : (range : Range) (declared : IlType) (answer : Bool)
    → answer ≡ type_eq.eq-value.it declared (types.Int range)
    → IsTrue answer ↔ (knowns.Int range ≡ known_of_type declared)
says_range range types.Bool answer e =
    (λ t. let p = (same_type types.Bool (types.Int range)).0 (sym e ∙ t) in absurd (cc), λ k. absurd (cc))
says_range range (types.Int d) answer e = (
  λ t. let p = (same_type (types.Int d) (types.Int range)).0 (sym e ∙ t) in sym (ap known_of_type p),
  λ k.
      let q : d ≡ range = cc in
      e ∙ (same_type (types.Int d) (types.Int range)).1 (ap (λ (r : Range). types.Int r) q),
)
