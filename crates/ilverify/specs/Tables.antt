-- Tables that are filled in body by body, each from its last word to its first: what is kept for a word is what it says
-- by what is kept for the words that may follow it.
use Rattle.std.specs.Prelude.{◌≡◌, ℕ, ◌+◌, ◌<◌, ◌≤◌, ◌⊎◌, min, List, length, Some, slice_get, get_or}
use Rattle.ilcode.specs.declared.word.Word.{Word}
use Rattle.ilcode.specs.Listings.{Listing, start_of, end_of}

-- numbers that 32 bits do not hold are not told apart
abbrev pub cap : ℕ
cap = 4294967295

abbrev pub plus : ℕ → ℕ → ℕ
plus a b = min (a + b) cap

-- what the word at a place of a body that ends at `end` says, as `says kept end place word`
abbrev pub Says : Type 0 → Type 0
Says A = List A → ℕ → ℕ → Word → A

-- from a place of the body on, what is kept is what its word says
abbrev pub AreRightFrom : {A : Type 0} → Listing → A → Says A → List A → ℕ → ℕ → Type 0
AreRightFrom code none says kept body from =
    (place : ℕ) (word : Word) → from ≤ place → place < end_of code body → slice_get code.instructions place ≡ Some word
    → get_or kept place none ≡ says kept (end_of code body) place word

-- a function that the body may call: each of the programs', and one before a function's own
pub record IsEarlier (body other : ℕ) : Type 0 where
  pub function : 1 ≤ other
  pub earlier : (body ≡ 0) ⊎ (other < body)

-- the bodies that this one may call are filled in
abbrev pub AreDone : {A : Type 0} → Listing → A → Says A → List A → ℕ → Type 0
AreDone code none says kept body =
    (other : ℕ) → IsEarlier body other → AreRightFrom code none says kept other (start_of code other)

-- and so is this one from the place on
pub record IsFilled {A : Type 0} (code : Listing) (none : A) (says : Says A) (kept : List A)
    (body place : ℕ) : Type 0 where
  pub long : length kept ≡ length code.instructions
  pub done : AreDone code none says kept body
  pub right : AreRightFrom code none says kept body place
