-- What the pass over the programs and then over the functions, the last first, has found of the requests on paths.
use Rattle.std.specs.Prelude.{◌≡◌, ℕ, ◌+◌, ◌<◌, ◌≤◌, ◌⊎◌, nat_lt, List, [], ◌∷◌, ◌++◌, length, if◌then◌else◌}
use Rattle.std.specs.Prelude.{Option, Some, None, slice_get, slice_set, get_or, max, min, IsTrue}
use Rattle.std.specs.Option.{unwrap_or}
use Rattle.iltypes.specs.declared.condition.Condition.TheVariants.{Always}
use Rattle.ilcode.specs.declared.word.Word.{Word}
use Rattle.ilcode.specs.declared.word.Word.TheVariants as words
use Rattle.ilcode.specs.Listings.{Listing, IsIn, end_of}
use Rattle.ilcode.specs.Paths.{Standing, PathCall, standing, body_on, IsPath, requests_on}
use Rattle.ilcode.specs.Steps.{is_target}
use Rattle.ilverify.specs.declared.through.Counted.TheVariants.{Requests}
use Rattle.ilverify.specs.Requests.{HoldsTooMany}
use Rattle.ilverify.specs.Tables.{cap, plus, IsEarlier}
use Rattle.ilverify.specs.Through.{weight, through_in}

-- ---- paths to a place

-- a path to the standing holds so many calls of request blocks at least
pub record HasBefore (code : Listing) (last : Standing) (requests : ℕ) : Type 0 where
  pub before : List Standing
  pub path : IsPath code (before ++ last ∷ [])
  pub many : requests ≤ requests_on code before

-- a path to the word at the place does
pub record HasPathTo (code : Listing) (place requests : ℕ) : Type 0 where
  pub calls : List PathCall
  pub in_body : IsIn code (body_on calls) place
  pub is : HasBefore code (standing place calls) requests

-- ---- what is kept for each place: how many are on a path to it at most, and nothing where none has led there

-- so many or more are kept
abbrev pub Holds : Option (Option ℕ) → ℕ → Type 0
Holds (Some (Some kept)) requests = requests ≤ kept
Holds _ requests = ⊥

-- so many lead from a word to the place of the body that ends at `end`
pub record IsAt (end to at requests kept : ℕ) : Type 0 where
  pub is : at ≡ to
  pub within : at < end
  pub many : kept ≡ requests

-- through a function to the place behind its call
abbrev pub IsBehind : Option ℕ → ℕ → ℕ → ℕ → ℕ → ℕ → Type 0
IsBehind (Some inside) end to at requests kept = IsAt end to at (plus requests inside) kept
IsBehind None end to at requests kept = ⊥

abbrev pub IsTargeted : Listing → ℕ → ℕ → ℕ → ℕ → ℕ → ℕ → Type 0
IsTargeted code end place target at requests kept =
    IsTrue (is_target code place target) × IsAt end target at requests kept

-- wherever the word leads
abbrev pub LeadsWith : Listing → List (Option ℕ) → ℕ → ℕ → Word → ℕ → ℕ → ℕ → Type 0
LeadsWith code through end place (words.Jump Always target) requests at kept =
    IsTargeted code end place target at requests kept
LeadsWith code through end place (words.Jump condition target) requests at kept =
    IsAt end (place + 1) at requests kept ⊎ IsTargeted code end place target at requests kept
LeadsWith code through end place (words.Invoke function) requests at kept =
    IsBehind (through_in code through function) end (place + 1) at requests kept
    ⊎ IsAt (end_of code (function + 1)) (end_of code function) at requests kept
LeadsWith code through end place word requests at kept = IsAt end (place + 1) at requests kept

-- where the pass has not been that stands before the word at a place of the body: from there on, and in the bodies that
-- this one may call
abbrev pub IsAhead : Listing → ℕ → ℕ → ℕ → Type 0
IsAhead code body place at =
    ((place ≤ at) × (at < end_of code body)) ⊎ ((other : ℕ) × IsEarlier body other × IsIn code other at)

-- what is kept for the place is passed on
abbrev pub IsPassedOn : Listing → List (Option ℕ) → List (Option ℕ) → ℕ → Type 0
IsPassedOn code through most from =
    (body : ℕ) (before : ℕ) (word : Word) → IsIn code body from → slice_get code.instructions from ≡ Some word
    → slice_get most from ≡ Some (Some before) → (at kept : ℕ)
    → LeadsWith code through (end_of code body) from word (plus before (weight code Requests word)) at kept
    → Holds (slice_get most at) kept

-- each number is that of a path, and what is kept for words behind the pass is passed on
pub record AreMost (code : Listing) (through most : List (Option ℕ)) (body place : ℕ) : Type 0 where
  pub long : length most ≡ length code.instructions
  pub each : (to requests : ℕ) → slice_get most to ≡ Some (Some requests) → HasPathTo code to requests
  pub first : 0 < end_of code 0 → Holds (slice_get most 0) 0
  pub passed : (from : ℕ) → ¬ IsAhead code body place from → IsPassedOn code through most from

-- at last: each is that of a path, and the greatest of those, as far as they are told apart
pub record AreAllMost (code : Listing) (most : List (Option ℕ)) : Type 0 where
  pub long : length most ≡ length code.instructions
  pub each : (to requests : ℕ) → slice_get most to ≡ Some (Some requests) → HasPathTo code to requests
  pub greatest : (before : List Standing) (last : Standing) → IsPath code (before ++ last ∷ [])
      → Holds (slice_get most last.place) (min (requests_on code before) cap)

-- ---- one word

-- a path with so many leads to the place, where that is one of the body's, which ends at `end`
abbrev pub raised : List (Option ℕ) → ℕ → ℕ → ℕ → List (Option ℕ)
raised most end place requests =
    if nat_lt place end then slice_set most place (Some (max (unwrap_or (get_or most place None) 0) requests)) else most

-- to a jump's target, where that is lawful
abbrev pub raised_target : Listing → List (Option ℕ) → ℕ → ℕ → ℕ → ℕ → List (Option ℕ)
raised_target code most end place target requests =
    if is_target code place target then raised most end target requests else most

-- to the place behind a call, where a way leads through the function
abbrev pub raised_behind : List (Option ℕ) → ℕ → ℕ → ℕ → Option ℕ → List (Option ℕ)
raised_behind most end place requests (Some inside) = raised most end place (plus requests inside)
raised_behind most end place requests None = most

-- wherever the word leads
abbrev pub raised_after
    : Listing → List (Option ℕ) → List (Option ℕ) → ℕ → ℕ → Word → ℕ → List (Option ℕ)
raised_after code through most end place (words.Jump Always target) requests =
    raised_target code most end place target requests
raised_after code through most end place (words.Jump condition target) requests =
    raised (raised_target code most end place target requests) end (place + 1) requests
raised_after code through most end place (words.Invoke function) requests =
    raised_behind (raised most (end_of code (function + 1)) (end_of code function) requests) end (place + 1) requests
    (through_in code through function)
raised_after code through most end place word requests = raised most end (place + 1) requests

-- ---- the answer

-- the place is the first at which a path holds more than the limit
pub record IsFirstOverfull (code : Listing) (place : ℕ) : Type 0 where
  pub holds : HoldsTooMany code place
  pub first : (before : ℕ) → before < place → ¬ HoldsTooMany code before
