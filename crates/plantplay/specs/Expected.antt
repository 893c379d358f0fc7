-- What is expected of the global variables of a plant (profile).
use Rattle.std.specs.Prelude.{◌≡◌, ℕ, ◌<◌, List, length, codes, Some, true, false}
use Rattle.std.specs.List.{All}
use Rattle.std.specs.Str.Parse.{IsNumeral, signed_digits_value, without_leading_sign}
use Rattle.iltypes.specs.declared.value.Value.{Value}
use Rattle.iltypes.specs.declared.value.Value.TheVariants as values
use Rattle.ilmachine.specs.Images.{Global}
use Rattle.ilplan.specs.Plans.{Planned}
use Rattle.plantevents.specs.Variables.{value}
use Rattle.plant.specs.Shown.{Shown}
use Rattle.plantplay.specs.Names.{IsAlike, IsNamed}
use Rattle.commandoptions.specs.declared.expected_word.ExpectedWord.{ExpectedWord}

-- ---- values

-- a word spells a value: TRUE and FALSE in any letter case, a whole number by its decimal digits
abbrev pub IsSpelled : List ℕ → Value → Type 0
IsSpelled word (values.Bool true) = IsAlike word (codes "TRUE")
IsSpelled word (values.Bool false) = IsAlike word (codes "FALSE")
IsSpelled word (values.Int number) =
    IsNumeral 10 (without_leading_sign word) × (signed_digits_value 10 word ≡ number)

-- ---- expectations

-- there is a global variable of the name
abbrev pub IsKnown : Planned → ExpectedWord → Type 0
IsKnown plan expected = (number : ℕ) × (number < length plan.globals) × IsNamed plan expected.name.now number

-- the global variable of this number is the one, and what was written to it last is the value that is expected
pub record IsMetAt (left : Shown) (expected : ExpectedWord) (number : ℕ) : Type 0 where
  pub within : number < length left.plant.plan.globals
  pub named : IsNamed left.plant.plan expected.name.now number
  pub shown : Value
  pub is : value left.plant (Global number) left.history ≡ Some shown
  pub spelled : IsSpelled expected.value.now shown

abbrev pub IsMet : Shown → ExpectedWord → Type 0
IsMet left expected = (number : ℕ) × IsMetAt left expected number

abbrev pub AreKnown : Planned → List ExpectedWord → Type 0
AreKnown plan expected = All (IsKnown plan) expected

abbrev pub AreMet : Shown → List ExpectedWord → Type 0
AreMet left expected = All (IsMet left) expected
