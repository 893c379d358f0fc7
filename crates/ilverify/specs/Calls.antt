-- Calls of functions that may not stand in a code (profile), whether they are reached or not.
use Rattle.std.specs.Prelude.{◌≡◌, ℕ, zero, suc, ◌+◌, ◌<◌, ◌≤◌, ◌⊎◌, length, Some, slice_get, IsTrue, ⊤}
use Rattle.limits.specs.Limits.{most_calls}
use Rattle.ilcode.specs.declared.word.Word.TheVariants as words
use Rattle.ilcode.specs.Listings.{Listing, IsIn}
use Rattle.ilcode.specs.Steps.{is_callable}

-- a chain of so many calls begins in the body of the function: a call stands in it, and a chain of one call less begins
-- in the body of the function that it calls
abbrev pub HasChain : Listing → ℕ → ℕ → Type 0
HasChain code zero function = ⊤
HasChain code (suc calls) function =
    (place : ℕ) × (inner : ℕ) × IsIn code (function + 1) place
    × (slice_get code.instructions place ≡ Some (words.Invoke inner)) × HasChain code calls inner

-- in the body may not stand a call of no function, of one that is not before the body's own, or one with which a chain
-- begins of more calls than may be open
abbrev pub IsBadCall : Listing → ℕ → ℕ → Type 0
IsBadCall code body function =
    (length code.functions ≤ function) ⊎ (¬ IsTrue (is_callable body function)) ⊎ HasChain code most_calls function

-- the word at the place is such a call
pub record IsBadAt (code : Listing) (place : ℕ) : Type 0 where
  pub body : ℕ
  pub in_body : IsIn code body place
  pub function : ℕ
  pub is : slice_get code.instructions place ≡ Some (words.Invoke function)
  pub bad : IsBadCall code body function

-- no word is
abbrev pub HasGoodCalls : Listing → Type 0
HasGoodCalls code = (place : ℕ) → ¬ IsBadAt code place

-- it is, and none before it
pub record IsFirstBad (code : Listing) (place : ℕ) : Type 0 where
  pub bad : IsBadAt code place
  pub first : (before : ℕ) → before < place → ¬ IsBadAt code before
