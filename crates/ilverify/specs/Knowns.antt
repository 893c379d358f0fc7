-- What is known of a value before a program runs: its kind, and a range that holds it where it is a number; and when it
-- may be stored.
use Rattle.std.specs.Prelude.{ℤ, ⊤, ◌≡◌}
use Rattle.std.specs.Int.Signed.{≤ℤ_refl}
use Rattle.iltypes.specs.declared.range.Range.{Range}
use Rattle.iltypes.specs.declared.value.IlType.{IlType}
use Rattle.iltypes.specs.declared.value.IlType.TheVariants as types
use Rattle.iltypes.specs.declared.value.Value.{Value}
use Rattle.iltypes.specs.declared.value.Value.TheVariants as values
use Rattle.iltypes.specs.Ranges.{Holds, IsWithin}
use Rattle.ilverify.specs.declared.known.Known.{Known}
use Rattle.ilverify.specs.declared.known.Known.TheVariants as knowns
use Rattle.ilverify.specs.declared.cause.Cause.{Cause}
use Rattle.ilverify.specs.declared.cause.Cause.TheVariants as causes

-- what is known of a variable: that its value is of the type
abbrev pub known_of_type : IlType → Known
known_of_type types.Bool = knowns.Bool
known_of_type (types.Int range) = knowns.Int range

-- the range of one number
abbrev pub only : ℤ → Range
only number = record { lo = number; hi = number; ordered = ≤ℤ_refl number }

-- what is known of a constant: which number it is
abbrev pub known_of_value : Value → Known
known_of_value (values.Bool truth) = knowns.Bool
known_of_value (values.Int number) = knowns.Int (only number)

-- the value is one of those that may stand there
abbrev pub IsKnown : Value → Known → Type 0
IsKnown (values.Bool truth) knowns.Bool = ⊤
IsKnown (values.Int number) (knowns.Int range) = Holds range number
IsKnown _ _ = ⊥

-- the value is of the same kind, whatever its number
abbrev pub IsOfKind : Value → Known → Type 0
IsOfKind (values.Bool truth) knowns.Bool = ⊤
IsOfKind (values.Int number) (knowns.Int range) = ⊤
IsOfKind _ _ = ⊥

-- the first says at least what the second says
abbrev pub IsKnownWithin : Known → Known → Type 0
IsKnownWithin knowns.Bool knowns.Bool = ⊤
IsKnownWithin (knowns.Int inner) (knowns.Int outer) = IsWithin inner outer
IsKnownWithin _ _ = ⊥

-- no less can be said of the set: the limits of the range are numbers of it
abbrev pub AreReached : (Value → Type 0) → Known → Type 0
AreReached IsOfSet knowns.Bool = ⊤
AreReached IsOfSet (knowns.Int range) = IsOfSet (values.Int range.lo) × IsOfSet (values.Int range.hi)

-- ---- when a value may be stored (profile)

-- the kinds differ, or the range that is found is not within the one that is allowed
abbrev pub ArisesAtStore : Known → IlType → Cause → Type 0
ArisesAtStore knowns.Bool (types.Int allowed) causes.WrongType = ⊤
ArisesAtStore (knowns.Int found) types.Bool causes.WrongType = ⊤
ArisesAtStore (knowns.Int found) (types.Int allowed) (causes.OutOfRange f a) =
    (found ≡ f) × (allowed ≡ a) × ¬ IsWithin found allowed
ArisesAtStore _ _ _ = ⊥
