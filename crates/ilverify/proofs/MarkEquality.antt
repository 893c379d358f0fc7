-- Marks are equal as Rust compares them exactly where they are the same.
use Rattle.std.proofs.Common.{◌≡◌, ◌∙◌, ℕ, ℤ, Bool, true, false, not, Option, Some, None, ap, refl}
use Rattle.std.specs.Bool.{Decides}
use Rattle.std.specs.Option.{option_eq}
use Rattle.std.proofs.lemmas.Bool.Decides.{Decides-eqb, Decides-int_eq, Decides-and, Decides-like}
use Rattle.iltypes.proofs.OperatorEquality.{same_operator}
use Rattle.iltypes.specs.declared.operator.Operator.{Operator}
use Rattle.ilverify.specs.declared.mark.ResultMark.{ResultMark}
use Rattle.ilverify.specs.declared.mark.ResultMark.TheVariants.{Copy, Test}
use Rattle.ilverify.specs.contracts.mark.ResultMarkPartialEq.TheImpl as mark_eq

same_test : (slot other : ℕ) (comparison compared : Operator) (limit bound : ℤ)
    → (slot ≡ other) × ((comparison ≡ compared) × (limit ≡ bound))
    → Test slot comparison limit ≡ Test other compared bound
same_test slot other comparison compared limit bound e =
    ap (λ s. Test s comparison limit) e.0 ∙ (ap (λ o. Test other o limit) e.1.0 ∙ ap (Test other compared) e.1.1)

same_mark : (a b : ResultMark) → Decides (mark_eq.eq-value.it a b) (a ≡ b)
same_mark (Copy a) (Copy b) = Decides-like _ (λ e. ap Copy e) (λ e. cc) (Decides-eqb a b)
same_mark (Test slot comparison limit) (Test other compared bound) =
    Decides-like _ (same_test slot other comparison compared limit bound) (λ e. (cc, (cc, cc)))
    (Decides-and _ _ (Decides-eqb slot other)
    (Decides-and _ _ (same_operator comparison compared) (Decides-int_eq limit bound)))
same_mark (Copy a) (Test other compared bound) = (λ e. cc, λ e. cc)
same_mark (Test slot comparison limit) (Copy b) = (λ e. cc, λ e. cc)

same_marks : (a b : Option ResultMark) → Decides (option_eq mark_eq.eq-value.it a b) (a ≡ b)
same_marks None None = (λ e. refl, λ e. refl)
same_marks None (Some b) = (λ e. cc, λ e. cc)
same_marks (Some a) None = (λ e. cc, λ e. cc)
same_marks (Some a) (Some b) = Decides-like _ (λ e. ap (λ (m : ResultMark). Some m) e) (λ e. cc) (same_mark a b)

-- what `!=` says of two marks
not_so : (answer test : Bool) → answer ≡ not test → answer ≡ false → test ≡ true
not_so answer true e f = refl
not_so answer false e f = absurd cc

never_both : (answer test : Bool) → answer ≡ not test → answer ≡ true → test ≡ true → ⊥
never_both answer true e f g = absurd cc
never_both answer false e f g = absurd cc

pub marks_same : (a b : Option ResultMark) (answer : Bool) → answer ≡ not (option_eq mark_eq.eq-value.it a b)
    → answer ≡ false → a ≡ b
marks_same a b answer e f = (same_marks a b).0 (not_so answer (option_eq mark_eq.eq-value.it a b) e f)

pub marks_apart : (a b : Option ResultMark) (answer : Bool) → answer ≡ not (option_eq mark_eq.eq-value.it a b)
    → answer ≡ true → ¬ (a ≡ b)
marks_apart a b answer e f g =
    never_both answer (option_eq mark_eq.eq-value.it a b) e f ((same_marks a b).1 g)
