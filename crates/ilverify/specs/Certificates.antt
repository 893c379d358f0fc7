-- Certificates (profile): an entry for each word, so that the rules lead from entry to entry. And why a code is
-- refused.
use Rattle.std.specs.Prelude.{◌≡◌, ℕ, ◌+◌, ◌<◌, ◌≤◌, ◌⊎◌, Bool, true, false, List, [], ◌∷◌, length, Option, Some, None}
use Rattle.std.specs.Prelude.{IsTrue, slice_get, ⊤}
use Rattle.ilcode.specs.declared.word.Word.{Word}
use Rattle.ilcode.specs.Listings.{Listing, start_of, end_of, body_at}
use Rattle.ilcode.specs.Paths.{IsTooLong}
use Rattle.ilcode.specs.Steps.{is_start}
use Rattle.ilverify.specs.Causes.{refusal_number, IsLeastCause}
use Rattle.ilverify.specs.declared.cause.Cause.TheVariants.{BadCall, TooLong}
use Rattle.ilverify.specs.declared.entry.Entry.{Entry}
use Rattle.ilverify.specs.declared.nesting.KnownOpened.{KnownOpened}
use Rattle.ilverify.specs.Entries.{IsInto, opening}
use Rattle.ilverify.specs.Refusals.{ArisesAtWord}
use Rattle.ilverify.specs.Rules.{Ways, IsWay, IsRule}
use Rattle.ilverify.specs.Calls.{HasGoodCalls, IsFirstBad}
use Rattle.ilverify.specs.Requests.{HasFewRequests, IsRequestRefusal}
use Rattle.ilverify.specs.declared.refusal.Refusal.{Refusal}
use Rattle.ilverify.specs.declared.refusal.VerifyError.{VerifyError}
use Rattle.ilverify.specs.declared.refusal.VerifyError.TheVariants.{Memory, Refused}

-- an entry for each word: none where the word is not reached
abbrev pub Certificate : Type 0
Certificate = List (Option Entry)

-- the certificate reaches the word at the place, with an entry that holds this one
pub record Leads (certificate : Certificate) (place : ℕ) (entry : Entry) : Type 0 where
  pub wider : Entry
  pub is : slice_get certificate place ≡ Some (Some wider)
  pub into : IsInto entry wider

-- nothing is open
abbrev pub are_closed : List KnownOpened → Bool
are_closed [] = true
are_closed (innermost ∷ nesting) = false

-- a place is reached where nothing is open
abbrev pub is_closed : Option (Option Entry) → Bool
is_closed (Some (Some entry)) = are_closed entry.nesting
is_closed _ = false

abbrev pub is_met : Certificate → ℕ → Bool
is_met certificate place = is_closed (slice_get certificate place)

-- no cause arises at the word, and what is known on each way from it leads into the entry of the word there; a way to
-- the end of the word's body leads to no word of it
pub record IsFine (code : Listing) (certificate : Certificate) (place : ℕ) (entry : Entry) (word : Word)
    : Type 0 where
  pub ways : Ways
  pub rule : IsRule code place (is_met certificate (place + 1)) entry word ways
  pub leads : (to : ℕ) (after : Entry) → IsWay word place ways to after
      → to < end_of code (body_at code place) → Leads certificate to after

-- consistent at the words below a place: the entry of each body's first word holds what is known at first, a start has
-- no current result and no mark, and each reached word is fine
pub record IsConsistentBelow (code : Listing) (certificate : Certificate) (end : ℕ) : Type 0 where
  pub long : length certificate ≡ length code.instructions
  pub begins : (body : ℕ) → start_of code body < end_of code body
      → Leads certificate (start_of code body) (opening code)
  pub starts : (place : ℕ) (entry : Entry) → IsTrue (is_start code place)
      → slice_get certificate place ≡ Some (Some entry) → (entry.result ≡ None) × (entry.mark ≡ None)
  pub each : (place : ℕ) (entry : Entry) (word : Word) → place < end
      → slice_get code.instructions place ≡ Some word
      → slice_get certificate place ≡ Some (Some entry) → IsFine code certificate place entry word

-- some certificate is consistent at all words
pub record IsCertified (code : Listing) : Type 0 where
  pub certificate : Certificate
  pub consistent : IsConsistentBelow code certificate (length code.instructions)

-- each entry of the first certificate is within the second's
abbrev pub Covers : Certificate → Certificate → Type 0
Covers certificate wider =
    (place : ℕ) (entry : Entry) → slice_get certificate place ≡ Some (Some entry) → Leads wider place entry

-- of the certificates that are consistent below the place, this one says most
pub record IsClosest (code : Listing) (certificate : Certificate) (end : ℕ) : Type 0 where
  pub consistent : IsConsistentBelow code certificate end
  pub covers : (other : Certificate) → IsConsistentBelow code other end → Covers certificate other

-- the word is the least at which no certificate goes on, and the cause the least that arises there; no certificate is
-- consistent
pub record IsRangeRefusal (code : Listing) (refusal : Refusal) : Type 0 where
  pub certificate : Certificate
  pub closest : IsClosest code certificate refusal.word
  pub entry : Entry
  pub reached : slice_get certificate refusal.word ≡ Some (Some entry)
  pub word : Word
  pub is : slice_get code.instructions refusal.word ≡ Some word
  pub cause : IsLeastCause (ArisesAtWord code refusal.word (is_met certificate (refusal.word + 1)) entry word)
      refusal.cause
  pub line : slice_get code.lines refusal.word ≡ Some refusal.line
  pub none_further : (other : Certificate) → ¬ IsConsistentBelow code other (refusal.word + 1)
  pub uncertified : ¬ IsCertified code

-- the code is accepted: each call may stand where it does, some certificate is consistent, no path holds too many
-- requests, and none is too long
pub record IsAccepted (code : Listing) : Type 0 where
  pub good : HasGoodCalls code
  pub certified : IsCertified code
  pub few : HasFewRequests code
  pub short : ¬ IsTooLong code

-- ---- why a code is refused

-- before all else by the first call that may not stand where it does
pub record IsCallRefusal (code : Listing) (refusal : Refusal) : Type 0 where
  pub cause : refusal.cause ≡ BadCall
  pub first : IsFirstBad code refusal.word
  pub line : slice_get code.lines refusal.word ≡ Some refusal.line

-- why a code of good calls may be refused: by what is known of values, or by the requests on its paths
abbrev pub MayRefuse : Listing → Refusal → Type 0
MayRefuse code refusal = IsRangeRefusal code refusal ⊎ IsRequestRefusal code refusal

-- at a lesser word, or at the same one by a cause of no greater number
abbrev pub IsNotAfter : Refusal → Refusal → Type 0
IsNotAfter one other =
    (one.word < other.word) ⊎ ((one.word ≡ other.word) × (refusal_number one.cause ≤ refusal_number other.cause))

-- then by the least of the two
pub record IsWordRefusal (code : Listing) (refusal : Refusal) : Type 0 where
  pub good : HasGoodCalls code
  pub is : MayRefuse code refusal
  pub least : (other : Refusal) → MayRefuse code other → IsNotAfter refusal other

-- after all else at the first word, where a path from there is too long
pub record IsLengthRefusal (code : Listing) (refusal : Refusal) : Type 0 where
  pub good : HasGoodCalls code
  pub certified : IsCertified code
  pub few : HasFewRequests code
  pub cause : refusal.cause ≡ TooLong
  pub long : IsTooLong code
  pub word : refusal.word ≡ 0
  pub line : slice_get code.lines refusal.word ≡ Some refusal.line

abbrev pub IsRefusal : Listing → Refusal → Type 0
IsRefusal code refusal =
    IsCallRefusal code refusal ⊎ IsWordRefusal code refusal ⊎ IsLengthRefusal code refusal

-- the number under which an error is reported
abbrev pub number_of_error : VerifyError → ℕ
number_of_error (Memory error) = 1
number_of_error (Refused refusal) = refusal_number refusal.cause

-- an error that is not out of memory is a refusal
abbrev pub IsError : Listing → VerifyError → Type 0
IsError code (Refused refusal) = IsRefusal code refusal
IsError code (Memory error) = ⊤
