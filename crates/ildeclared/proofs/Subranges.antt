-- Ranges that are made of their limits, and subranges of a base.
use Rattle.std.proofs.Common.{◌≡◌, ℤ, ◌≤ℤ◌, Bool, true, false, refl, sym, ap, ◌∙◌, arith}
use Rattle.std.proofs.Math.Dec.{T, T_prop}
use Rattle.std.proofs.lemmas.Int.{ints}
use Rattle.std.proofs.lemmas.Grind.{common_steps}
use Rattle.std.specs.Prelude.{Option, Some, None, int_le, ◌&&◌, option_map, if◌then◌else◌}
use Rattle.iltypes.specs.Ranges.{IsWithin}
use Rattle.iltypes.specs.declared.range.Range.{Range}
use Rattle.iltypes.specs.declared.value.IlType.TheVariants as types
use Rattle.iltypes.specs.declared.value.Value.TheVariants as values
use Rattle.ildeclared.specs.DataTypes.{range_if, whole_numbers}
use Rattle.ildeclared.specs.declared.data_type.DataType.{DataType}

order_prop : (x y : ℤ) → IsProp (x ≤ℤ y)
order_prop x y = hlevel T_prop

pub le_to : (a b : ℤ) → a ≤ℤ b → int_le a b ≡ true
le_to a b h = grind (arith, ints, common_steps, h)

pub le_from : (a b : ℤ) → int_le a b ≡ true → a ≤ℤ b
le_from a b h = omega (arith, ints, h)

abbrev pub numbers_of : Range → ℤ → DataType
numbers_of range first = record { value_type = types.Int range; initial = values.Int first }

-- the numbers between the limits of a range are those of the range
pub numbers_given : (range : Range) (first : ℤ) → whole_numbers range.lo range.hi first ≡ Some (numbers_of range first)
numbers_given range first = given (int_le range.lo range.hi) (λ is. record { le = is }) range.ordered.le
  where
    given : (is : Bool) (ordered : T is → range.lo ≤ℤ range.hi) → T is →
        option_map (λ r. numbers_of r first) (range_if range.lo range.hi is ordered) ≡ Some (numbers_of range first)
    given true ordered t =
        ap (λ (o : range.lo ≤ℤ range.hi). Some
        (numbers_of (record { lo = range.lo; hi = range.hi; ordered = o }) first))
        (order_prop range.lo range.hi (ordered tt) range.ordered)
    given false ordered t = absurd t

module _ {X : Type 0} (least greatest low high : ℤ) (x : Option X) where
  within_base : least ≤ℤ low → high ≤ℤ greatest → (if int_le least low && int_le high greatest then x else None) ≡ x
  within_base a b = rw (le_to least low a, le_to high greatest b) refl

  outside_base : ((least ≤ℤ low) × (high ≤ℤ greatest) → ⊥)
      → (if int_le least low && int_le high greatest then x else None) ≡ None
  outside_base out = cases (int_le least low) (int_le high greatest) refl refl
    where
      cases : (a b : Bool) → int_le least low ≡ a → int_le high greatest ≡ b → (if a && b then x else None) ≡ None
      cases true true e f = absurd (out (le_from least low e, le_from high greatest f))
      cases true false e f = refl
      cases false b e f = refl

-- a range within its base, and one that has numbers outside it
module _ (range outer : Range) (least greatest low high : ℤ) (p : outer.lo ≡ least) (q : outer.hi ≡ greatest)
    (r : range.lo ≡ low) (s : range.hi ≡ high) where
  pub subrange_within : (first : ℤ) (type : DataType) → IsWithin range outer → first ≡ low
      → whole_numbers range.lo range.hi first ≡ Some type →
      Some type ≡ (if int_le least low && int_le high greatest then whole_numbers low high low else None)
  subrange_within first type h f e =
      sym
      (within_base least greatest low high (whole_numbers low high low) (rw (← p, ← r) h.low) (rw (← q, ← s) h.high)
      ∙ (λ i. whole_numbers (sym r i) (sym s i) (sym f i))
      ∙ e)

  pub subrange_outside : {X : Type 0} (x : Option X) → (IsWithin range outer → ⊥)
      → None ≡ (if int_le least low && int_le high greatest then x else None)
  subrange_outside x out =
      sym (outside_base least greatest low high x (λ h. out (record { low = rw (p, r) h.0; high = rw (q, s) h.1 })))
