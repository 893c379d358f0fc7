-- Requests on paths (profile: a scan makes at most so many), whatever the values.
use Rattle.std.specs.Prelude.{◌≡◌, ℕ, ◌<◌, ◌≤◌, min, List, [], ◌∷◌, ◌++◌, Some, slice_get}
use Rattle.limits.specs.Limits.{most_requests}
use Rattle.ilcode.specs.Listings.{Listing}
use Rattle.ilcode.specs.Paths.{Standing, IsPath, requests_on}
use Rattle.ilverify.specs.declared.cause.Cause.TheVariants.{TooManyRequests}
use Rattle.ilverify.specs.declared.refusal.Refusal.{Refusal}
use Rattle.ilverify.specs.Tables.{cap}

-- no path holds more calls of request blocks than the limit
abbrev pub HasFewRequests : Listing → Type 0
HasFewRequests code = (path : List Standing) → IsPath code path → requests_on code path ≤ most_requests

-- some path holds so many, and none more
pub record IsMostRequests (code : Listing) (requests : ℕ) : Type 0 where
  pub path : List Standing
  pub is : IsPath code path
  pub many : requests ≤ requests_on code path
  pub greatest : (other : List Standing) → IsPath code other → min (requests_on code other) cap ≤ requests

-- a path that ends at the place holds more
pub record HoldsTooMany (code : Listing) (place : ℕ) : Type 0 where
  pub before : List Standing
  pub last : Standing
  pub ends : last.place ≡ place
  pub path : IsPath code (before ++ last ∷ [])
  pub many : most_requests < requests_on code (before ++ last ∷ [])

-- the word is the first at which a path holds more
pub record IsRequestRefusal (code : Listing) (refusal : Refusal) : Type 0 where
  pub cause : refusal.cause ≡ TooManyRequests
  pub holds : HoldsTooMany code refusal.word
  pub first : (place : ℕ) → place < refusal.word → ¬ HoldsTooMany code place
  pub line : slice_get code.lines refusal.word ≡ Some refusal.line
