-- What is known of a value where two ways meet: each way is within it, and it is within all that both are within;
-- nothing holds values of two kinds.
use Rattle.std.proofs.Common.{ℤ, inl, inr, true, Option, Some, None, refl}
use Rattle.std.specs.Prelude.{◌↔◌, IsNone, IsSome}
use Rattle.iltypes.specs.declared.range.Range.{Range}
use Rattle.iltypes.specs.declared.value.Value.{Value}
use Rattle.iltypes.specs.declared.value.Value.TheVariants as values
use Rattle.iltypes.specs.Ranges.{Holds}
use Rattle.iltypes.specs.Arithmetic.{IsOfEither}
use Rattle.iltypes.proofs.Limits.{holds_low}
use Rattle.ilverify.specs.declared.known.Known.{Known}
use Rattle.ilverify.specs.declared.known.Known.TheVariants as knowns
use Rattle.ilverify.specs.Knowns.{IsKnown, IsKnownWithin}
use Rattle.ilverify.specs.Joins.{IsHeld, IsKnownAsEither, IsJoin}
use Rattle.ilverify.proofs.Knowns.{known_wider, numbers_within, within_of_values, reached_self}

-- what something holds has a join
pub held_joins : (one other : Known) (join : Option Known) → (IsNone join ↔ ¬ IsHeld one other) → IsHeld one other
    → IsSome join
held_joins one other (Some known) none held = refl
held_joins one other None none held = absurd (none.0 refl held)

-- ---- values of two kinds

not_of_both : (known : Known) (z : ℤ) → IsKnown (values.Bool true) known → IsKnown (values.Int z) known → ⊥
not_of_both knowns.Bool z h k = k
not_of_both (knowns.Int r) z h k = h

pub apart : (range : Range) → ¬ IsHeld knowns.Bool (knowns.Int range)
apart range h =
    not_of_both h.known range.lo (h.each (values.Bool true) (inl tt)) (h.each (values.Int range.lo) (inr
    (holds_low range)))

pub apart_round : (range : Range) → ¬ IsHeld (knowns.Int range) knowns.Bool
apart_round range h =
    not_of_both h.known range.lo (h.each (values.Bool true) (inr tt)) (h.each (values.Int range.lo) (inl
    (holds_low range)))

in_numbers : (one other range : Range) → ((z : ℤ) → IsOfEither one other z → Holds range z) → (v : Value)
    → IsKnownAsEither (knowns.Int one) (knowns.Int other) v → IsKnown v (knowns.Int range)
in_numbers one other range h (values.Int z) p = h z p
in_numbers one other range h (values.Bool b) (inl p) = absurd p
in_numbers one other range h (values.Bool b) (inr p) = absurd p

pub numbers_held : (one other range : Range) → ((z : ℤ) → IsOfEither one other z → Holds range z)
    → IsHeld (knowns.Int one) (knowns.Int other)
numbers_held one other range h = record { known = knowns.Int range; each = in_numbers one other range h }

-- ---- the join

either_in : (one other wider : Known) (v : Value) → IsKnownWithin one wider → IsKnownWithin other wider
    → IsKnownAsEither one other v → IsKnown v wider
either_in one other wider v w u (inl h) = known_wider v one wider w h
either_in one other wider v w u (inr h) = known_wider v other wider u h

-- what both are within holds both
pub held_in : (one other wider : Known) → IsKnownWithin one wider → IsKnownWithin other wider → IsHeld one other
held_in one other wider w u = record { known = wider; each = λ v. either_in one other wider v w u }

pub one_in : (one other known : Known) → IsJoin one other known → IsKnownWithin one known
one_in one other known j = within_of_values one known (λ v h. j.each v (inl h))

pub other_in : (one other known : Known) → IsJoin one other known → IsKnownWithin other known
other_in one other known j = within_of_values other known (λ v h. j.each v (inr h))

truths_in : (one wider : Known) → IsKnownWithin one knowns.Bool → IsKnownWithin one wider
    → IsKnownWithin knowns.Bool wider
truths_in knowns.Bool wider h w = w
truths_in (knowns.Int range) wider h w = absurd h

pub least_in : (one other known wider : Known) → IsJoin one other known → IsKnownWithin one wider
    → IsKnownWithin other wider → IsKnownWithin known wider
least_in one other knowns.Bool wider j w u = truths_in one wider (one_in one other knowns.Bool j) w
least_in one other (knowns.Int range) wider j w u =
    numbers_within range wider (either_in one other wider (values.Int range.lo) w u j.closest.0)
    (either_in one other wider (values.Int range.hi) w u j.closest.1)

as_one : (one other : Known) (v : Value) → IsKnownWithin other one → IsKnownAsEither one other v → IsKnown v one
as_one one other v w (inl h) = h
as_one one other v w (inr h) = known_wider v other one w h

as_other : (one other : Known) (v : Value) → IsKnownWithin one other → IsKnownAsEither one other v → IsKnown v other
as_other one other v w (inl h) = known_wider v one other w h
as_other one other v w (inr h) = h

pub join_one : (one other : Known) → IsKnownWithin other one → IsJoin one other one
join_one one other w =
    record {
      each = λ v. as_one one other v w;
      closest = reached_self one (IsKnownAsEither one other) (λ v h. inl h);
    }

pub join_other : (one other : Known) → IsKnownWithin one other → IsJoin one other other
join_other one other w =
    record {
      each = λ v. as_other one other v w;
      closest = reached_self other (IsKnownAsEither one other) (λ v h. inr h);
    }
