-- What is known of a value: of its kind, of a value of a type, of what says less, and by the limits of a range.
use Rattle.std.proofs.Common.{ℤ, true, arith}
use Rattle.std.proofs.lemmas.Int.{ints}
use Rattle.iltypes.specs.declared.range.Range.{Range}
use Rattle.iltypes.specs.declared.value.Value.{Value}
use Rattle.iltypes.specs.declared.value.Value.TheVariants as values
use Rattle.iltypes.proofs.Limits.{holds_low, holds_high}
use Rattle.iltypes.specs.declared.value.IlType.{IlType}
use Rattle.iltypes.specs.declared.value.IlType.TheVariants as types
use Rattle.iltypes.specs.Values.{IsOf}
use Rattle.iltypes.specs.Ranges.{Holds, IsWithin}
use Rattle.ilverify.specs.declared.known.Known.{Known}
use Rattle.ilverify.specs.declared.known.Known.TheVariants as knowns
use Rattle.ilverify.specs.Knowns.{IsKnown, IsOfKind, IsKnownWithin, known_of_type, AreReached}

pub kind_of_known : (v : Value) (known : Known) → IsKnown v known → IsOfKind v known
kind_of_known (values.Bool b) knowns.Bool h = tt
kind_of_known (values.Bool b) (knowns.Int r) h = absurd h
kind_of_known (values.Int z) knowns.Bool h = absurd h
kind_of_known (values.Int z) (knowns.Int r) h = tt

-- something is known so
pub example : (known : Known) → (v : Value) × IsKnown v known
example knowns.Bool = (values.Bool true, tt)
example (knowns.Int r) = (values.Int r.lo, holds_low r)

pub of_known : (value : Value) (type : IlType) → IsOf value type → IsKnown value (known_of_type type)
of_known (values.Bool truth) types.Bool h = tt
of_known (values.Bool truth) (types.Int range) h = absurd h
of_known (values.Int number) types.Bool h = absurd h
of_known (values.Int number) (types.Int range) h = h

pub of_kind : (v : Value) (type : IlType) → IsOf v type → IsOfKind v (known_of_type type)
of_kind (values.Bool b) types.Bool h = tt
of_kind (values.Bool b) (types.Int r) h = absurd h
of_kind (values.Int z) types.Bool h = absurd h
of_kind (values.Int z) (types.Int r) h = tt

pub known_self : (known : Known) → IsKnownWithin known known
known_self knowns.Bool = tt
known_self (knowns.Int range) = record { low = omega (arith, ints); high = omega (arith, ints) }

pub holds_wider : (r s : Range) (z : ℤ) → IsWithin r s → Holds r z → Holds s z
holds_wider r s z w h = record { low = omega (arith, ints, w.low, h.low); high = omega (arith, ints, w.high, h.high) }

pub known_wider : (v : Value) (known wider : Known) → IsKnownWithin known wider → IsKnown v known → IsKnown v wider
known_wider (values.Bool b) knowns.Bool knowns.Bool w h = tt
known_wider (values.Bool b) knowns.Bool (knowns.Int s) w h = absurd w
known_wider (values.Bool b) (knowns.Int r) wider w h = absurd h
known_wider (values.Int z) knowns.Bool wider w h = absurd h
known_wider (values.Int z) (knowns.Int r) knowns.Bool w h = absurd w
known_wider (values.Int z) (knowns.Int r) (knowns.Int s) w h = holds_wider r s z w h

pub truths_within : (v : Value) (wider : Known) → IsKnown v knowns.Bool → IsKnown v wider
    → IsKnownWithin knowns.Bool wider
truths_within (values.Bool b) knowns.Bool h k = tt
truths_within (values.Bool b) (knowns.Int r) h k = absurd k
truths_within (values.Int z) wider h k = absurd h

pub numbers_within : (r : Range) (wider : Known) → IsKnown (values.Int r.lo) wider → IsKnown (values.Int r.hi) wider
    → IsKnownWithin (knowns.Int r) wider
numbers_within r knowns.Bool h k = absurd h
numbers_within r (knowns.Int s) h k = record { low = h.low; high = k.high }

-- what holds each value of the first has the first within it
pub within_of_values : (inner outer : Known) → ((v : Value) → IsKnown v inner → IsKnown v outer)
    → IsKnownWithin inner outer
within_of_values knowns.Bool knowns.Bool h = tt
within_of_values knowns.Bool (knowns.Int outer) h = h (values.Bool true) tt
within_of_values (knowns.Int inner) knowns.Bool h = h (values.Int inner.lo) (holds_low inner)
within_of_values (knowns.Int inner) (knowns.Int outer) h =
    let l = h (values.Int inner.lo) (holds_low inner) in
    let u = h (values.Int inner.hi) (holds_high inner) in
    record { low = l.low; high = u.high }

-- the limits of what is known are known so
pub reached_self : (known : Known) (P : Value → Type 0) → ((v : Value) → IsKnown v known → P v) → AreReached P known
reached_self knowns.Bool P h = tt
reached_self (knowns.Int range) P h =
    (h (values.Int range.lo) (holds_low range), h (values.Int range.hi) (holds_high range))

pub stored_within : (found allowed : Range)
    → ((v : Value) → IsKnown v (knowns.Int found) → IsOf v (types.Int allowed)) → IsWithin found allowed
stored_within found allowed h =
    let l = h (values.Int found.lo) (holds_low found) in
    let u = h (values.Int found.hi) (holds_high found) in
    record { low = l.low; high = u.high }
