-- What is known of a value where two ways meet, and of values in a row.
use Rattle.std.specs.Prelude.{◌≡◌, ◌⊎◌, ℕ, List, length, Some, slice_get}
use Rattle.iltypes.specs.declared.value.Value.{Value}
use Rattle.ilverify.specs.declared.known.Known.{Known}
use Rattle.ilverify.specs.Knowns.{IsKnown, AreReached}

-- the value is known as the one or as the other
abbrev pub IsKnownAsEither : Known → Known → Value → Type 0
IsKnownAsEither one other value = IsKnown value one ⊎ IsKnown value other

-- each value of either is known so, and no less can be said
pub record IsJoin (one other known : Known) : Type 0 where
  pub each : (value : Value) → IsKnownAsEither one other value → IsKnown value known
  pub closest : AreReached (IsKnownAsEither one other) known

-- something holds each value of either
pub record IsHeld (one other : Known) : Type 0 where
  pub known : Known
  pub each : (value : Value) → IsKnownAsEither one other value → IsKnown value known

-- the relation holds of what stands at each place of three lists, which are as long
pub record Each {A : Type 0} (P : A → A → A → Type 0) (ones others results : List A) : Type 0 where
  pub first : length ones ≡ length results
  pub second : length others ≡ length results
  pub each : (place : ℕ) (one other result : A) → slice_get ones place ≡ Some one → slice_get others place ≡ Some other
      → slice_get results place ≡ Some result → P one other result

-- the same of each two in a row
abbrev pub AreJoins : List Known → List Known → List Known → Type 0
AreJoins ones others knowns = Each IsJoin ones others knowns
