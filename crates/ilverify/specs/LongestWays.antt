-- The longest ways from the words of a code, whatever the values.
use Rattle.std.specs.Prelude.{◌≡◌, ℕ, zero, suc, ◌+◌, ◌≤◌, min, max, List, [], ◌∷◌, length, Option, Some, None, ⊤}
use Rattle.ilcode.specs.Listings.{Listing, end_of}
use Rattle.ilcode.specs.Paths.{PathCall, path_call, Standing, land, IsWord, AreNext}
use Rattle.ilverify.specs.Tables.{cap}

-- ---- ways

-- words one after another: the first stands there, and each other is a successor of the one before
abbrev pub IsWayFrom : Listing → Standing → List Standing → Type 0
IsWayFrom code from [] = ⊤
IsWayFrom code from (s ∷ more) = (s ≡ from) × IsWord code s × AreNext code s more

-- the greatest number of words on a way from the place on, where these calls are open
pub record IsLongest (code : Listing) (place : ℕ) (calls : List PathCall) (words : ℕ) : Type 0 where
  pub way : List Standing
  pub is : IsWayFrom code (land code place calls) way
  pub long : length way ≡ words
  pub greatest : (other : List Standing) → IsWayFrom code (land code place calls) other → min (length other) cap ≤ words

-- ---- the calls that are open

-- each place is one of its body or its end
abbrev pub IsPlaced : Listing → List PathCall → ℕ → Type 0
IsPlaced code [] place = place ≤ end_of code 0
IsPlaced code (c ∷ cs) place =
    (end_of code c.function ≤ place) × (place ≤ end_of code (c.function + 1)) × IsPlaced code cs c.back

-- a body by itself: a function is called by the last word of the programs, so that nothing follows it
abbrev pub alone : Listing → ℕ → List PathCall
alone code zero = []
alone code (suc function) = path_call function (end_of code 0) ∷ []

-- ---- through a function

-- the words from a place to the end of its body, if a way leads there, and those of its callers behind it
abbrev pub then_more : Option ℕ → ℕ → ℕ
then_more (Some t) rest = t + rest
then_more None rest = 0

-- so many words are on a way from the place to the end of the function, or no way leads there: whatever calls it, the
-- longest way from the place is one within the function, or it goes through and on where the caller goes on
abbrev pub IsThrough : Listing → ℕ → ℕ → Option ℕ → Type 0
IsThrough code function place through =
    (calls : List PathCall) (back within behind : ℕ) → IsPlaced code (path_call function back ∷ calls) place
    → IsLongest code place (alone code (suc function)) within → IsLongest code back calls behind
    → IsLongest code place (path_call function back ∷ calls) (min (max within (then_more through behind)) cap)
