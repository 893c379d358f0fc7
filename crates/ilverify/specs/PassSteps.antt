-- What the pass of the verifier has found before a word, and what its steps give.
use Rattle.std.specs.Prelude.{◌≡◌, ℕ, ◌+◌, ◌<◌, ◌≤◌, List, [], length, map, Option, Some, None, slice_get, slice_set, ⊤}
use Rattle.std.specs.Prelude.{nat_lt, if◌then◌else◌}
use Rattle.std.specs.List.{AllZip}
use Rattle.std.specs.Option.{option_map}
use Rattle.ilcode.specs.declared.word.Word.{Word}
use Rattle.ilcode.specs.declared.word.Word.TheVariants as words
use Rattle.ilcode.specs.Listings.{Listing, start_of, end_of, body_at}
use Rattle.ilverify.specs.declared.change.Change.{Change}
use Rattle.ilverify.specs.declared.change.Changes.{Changes}
use Rattle.ilverify.specs.declared.entry.Entry.{Entry}
use Rattle.ilverify.specs.declared.known.Known.{Known}
use Rattle.ilverify.specs.Changes.{changed}
use Rattle.ilverify.specs.Entries.{opening, arriving, IsInto, IsMeeting, MayMeet}
use Rattle.ilverify.specs.Knowns.{known_of_type, IsKnownWithin}
use Rattle.ilverify.specs.Certificates.{Certificate, IsClosest}

-- ---- a way that meets those that led to the place before

-- nothing is open on either way, and some entry holds both
pub record CanJoin (old way : Entry) : Type 0 where
  pub meeting : MayMeet old way
  pub closed : old.nesting ≡ []
  pub closed_there : way.nesting ≡ []

abbrev pub CanMeet : Option Entry → Entry → Type 0
CanMeet (Some old) way = CanJoin old way
CanMeet None way = ⊤

abbrev pub CanMeetAt : Option (Option Entry) → Entry → Type 0
CanMeetAt (Some old) way = CanMeet old way
CanMeetAt None way = ⊤

abbrev pub CanMeetIf : Option (Option Entry) → Option Entry → Type 0
CanMeetIf old (Some way) = CanMeetAt old way
CanMeetIf old None = ⊤

-- what is known on either way; the way alone, where none led there before
abbrev pub IsMeetingOf : Option Entry → Entry → Entry → Type 0
IsMeetingOf (Some old) way entry = IsMeeting old way entry
IsMeetingOf None way entry = entry ≡ way

abbrev pub IsMeetingAt : Option (Option Entry) → Entry → Entry → Type 0
IsMeetingAt (Some old) way entry = IsMeetingOf old way entry
IsMeetingAt None way entry = entry ≡ way

-- the entry at the place takes in the way; past the last word nothing is kept
pub record Meets (old : Certificate) (place : ℕ) (way : Entry) (new : Certificate) : Type 0 where
  pub entry : Entry
  pub meeting : IsMeetingAt (slice_get old place) way entry
  pub is : new ≡ slice_set old place (Some entry)

abbrev pub MeetsIf : Certificate → ℕ → Option Entry → Certificate → Type 0
MeetsIf old place (Some way) new = Meets old place way new
MeetsIf old place None new = new ≡ old

-- ---- the ways from a word

-- where a jump leads, or the next place
abbrev pub target_of : ℕ → Word → ℕ
target_of place (words.Jump condition target) = target
target_of place word = place + 1

-- what is known where a way leads to a place of a body that ends there; nothing, where the place is its end
abbrev pub coming : Listing → ℕ → ℕ → Option Entry → Option Entry
coming code end place way = if nat_lt place end then option_map (arriving code place) way else None

abbrev pub arrived : Listing → ℕ → ℕ → Entry → Option Change → Option Entry
arrived code end place entry change = coming code end place (option_map (changed code entry) change)

-- both ways from the word have gone where they lead
pub record AreFollowed (code : Listing) (place : ℕ) (word : Word) (entry : Entry) (changes : Changes)
    (old new : Certificate) : Type 0 where
  pub between : Certificate
  pub target : MeetsIf old (target_of place word)
      (arrived code (end_of code (body_at code place)) (target_of place word) entry changes.target) between
  pub next : MeetsIf between (place + 1)
      (arrived code (end_of code (body_at code place)) (place + 1) entry changes.next) new

-- ---- before the first word

-- the place is that of a body's first word, with what is known there
pub record IsFirst (code : Listing) (place : ℕ) (entry : Entry) : Type 0 where
  pub body : ℕ
  pub is : start_of code body ≡ place
  pub word : start_of code body < end_of code body
  pub known : entry ≡ opening code

-- the first words of so many bodies are reached, with what is known there at first
pub record HaveBegun (code : Listing) (bodies : ℕ) (pending : Certificate) : Type 0 where
  pub long : length pending ≡ length code.instructions
  pub leads : (body : ℕ) → body < bodies → start_of code body < end_of code body
      → slice_get pending (start_of code body) ≡ Some (Some (opening code))
  pub each : (place : ℕ) (entry : Entry) → slice_get pending place ≡ Some (Some entry) → IsFirst code place entry

-- ---- before a word

-- each slot is known within its type
abbrev pub AreTyped : Listing → List Known → Type 0
AreTyped code slots = AllZip IsKnownWithin slots (map known_of_type code.slots)

-- past the place, nothing more is said than before the first word: so nothing is open, and ways may meet
abbrev pub AreBounded : Listing → ℕ → Certificate → Type 0
AreBounded code place pending =
    (later : ℕ) (entry : Entry) → place < later → slice_get pending later ≡ Some (Some entry)
    → IsInto entry (opening code)

-- from the place on, these are the entries of a certificate that says most
pub record IsFound (code : Listing) (place : ℕ) (pending : Certificate) : Type 0 where
  pub certificate : Certificate
  pub closest : IsClosest code certificate place
  pub long : length pending ≡ length code.instructions
  pub same : (later : ℕ) → place ≤ later → slice_get pending later ≡ slice_get certificate later
  pub typed : (entry : Entry) → slice_get pending place ≡ Some (Some entry) → AreTyped code entry.slots
  pub bounded : AreBounded code place pending
