-- Ranges and types are equal as Rust compares them exactly where they are the same.
use Rattle.std.proofs.Common.{◌≡◌, ℤ, ap, refl, subst}
use Rattle.std.proofs.Math.Dec.{T_prop}
use Rattle.std.specs.Bool.{Decides}
use Rattle.std.specs.Prelude.{◌≤ℤ◌}
use Rattle.std.proofs.lemmas.Bool.Decides.{Decides-int_eq, Decides-and, Decides-like}
use Rattle.iltypes.specs.contracts.range.RangePartialEq.TheImpl as range_eq
use Rattle.iltypes.specs.contracts.value.IlTypePartialEq.TheImpl as type_eq
use Rattle.iltypes.specs.declared.range.Range.{Range}
use Rattle.iltypes.specs.declared.value.IlType.{IlType}
use Rattle.iltypes.specs.declared.value.IlType.TheVariants as types

order_prop : (x y : ℤ) → IsProp (x ≤ℤ y)
order_prop x y = hlevel T_prop

abbrev made : (lo hi : ℤ) → lo ≤ℤ hi → Range
made lo hi h = record { lo = lo; hi = hi; ordered = h }

made_same : (a b lo hi : ℤ) (h : a ≤ℤ b) (k : lo ≤ℤ hi) → a ≡ lo → b ≡ hi → made a b h ≡ made lo hi k
made_same a b lo hi h k p q =
    subst (λ (x : ℤ). (j : x ≤ℤ hi) → made a b h ≡ made x hi j) p
    (subst (λ (y : ℤ). (j : a ≤ℤ y) → made a b h ≡ made a y j) q (λ j. ap (made a b) (order_prop a b h j))) k

-- ranges of equal limits are the same
pub same_limits : (a b : Range) → (a.lo ≡ b.lo) × (a.hi ≡ b.hi) → a ≡ b
same_limits a b e = made_same a.lo a.hi b.lo b.hi a.ordered b.ordered e.0 e.1

same_range : (a b : Range) → Decides (range_eq.eq-value.it a b) (a ≡ b)
same_range a b =
    Decides-like _ (same_limits a b) (λ e. (ap (λ (r : Range). r.lo) e, ap (λ (r : Range). r.hi) e))
    (Decides-and _ _ (Decides-int_eq a.lo b.lo) (Decides-int_eq a.hi b.hi))

pub same_type : (a b : IlType) → Decides (type_eq.eq-value.it a b) (a ≡ b)
same_type types.Bool types.Bool = (λ e. refl, λ e. refl)
same_type (types.Int a) (types.Int b) = Decides-like _ (λ e. ap types.Int e) (λ e. cc) (same_range a b)
same_type types.Bool (types.Int b) = (λ e. cc, λ e. cc)
same_type (types.Int a) types.Bool = (λ e. cc, λ e. cc)
