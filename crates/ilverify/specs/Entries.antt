-- Entries (profile): what is known before a word that is reached, and where two ways meet.
use Rattle.std.specs.Prelude.{◌≡◌, ℕ, if◌then◌else◌, Option, Some, None, [], map, ⊤}
use Rattle.std.specs.List.{AllZip}
use Rattle.ilcode.specs.Listings.{Listing}
use Rattle.ilcode.specs.Steps.{is_start}
use Rattle.ilverify.specs.declared.entry.Entry.{Entry}
use Rattle.ilverify.specs.declared.known.Known.{Known}
use Rattle.ilverify.specs.declared.nesting.KnownOpened.{KnownOpened}
use Rattle.ilverify.specs.Knowns.{known_of_type, IsKnownWithin}
use Rattle.ilverify.specs.Marks.{IsMarkInto}

-- where the programs or a function begin each slot has a value of its type, there is no current result, and nothing is
-- open
abbrev pub opening : Listing → Entry
opening code = record { slots = map known_of_type code.slots; result = None; mark = None; nesting = [] }

-- where control comes to a place there is no current result, and so no mark, if a program or a function begins
-- there
abbrev pub arriving : Listing → ℕ → Entry → Entry
arriving code place entry = if is_start code place then record entry { result = None; mark = None } else entry

-- 'there may be no current result' holds of every current result
abbrev pub IsResultInto : Option Known → Option Known → Type 0
IsResultInto known None = ⊤
IsResultInto None (Some wider) = ⊥
IsResultInto (Some known) (Some wider) = IsKnownWithin known wider

-- the same operator waits, with a result that is known within
pub record IsOpenedInto (opened wider : KnownOpened) : Type 0 where
  pub operator : opened.operator ≡ wider.operator
  pub saved : IsKnownWithin opened.saved wider.saved

-- what the first entry says is within what the second says: slot by slot, of the current result, which has the same
-- mark or, in the second, none, and of each parenthesis that is open, of which both have as many
pub record IsInto (entry wider : Entry) : Type 0 where
  pub slots : AllZip IsKnownWithin entry.slots wider.slots
  pub result : IsResultInto entry.result wider.result
  pub mark : IsMarkInto entry.mark wider.mark
  pub nesting : AllZip IsOpenedInto entry.nesting wider.nesting

-- ---- where two ways meet

-- what is known on either way, and no less: all that both ways lead into, it leads into
pub record IsMeeting (one other meeting : Entry) : Type 0 where
  pub from_one : IsInto one meeting
  pub from_other : IsInto other meeting
  pub least : (wider : Entry) → IsInto one wider → IsInto other wider → IsInto meeting wider

-- some entry holds what is known on either way
pub record MayMeet (one other : Entry) : Type 0 where
  pub wider : Entry
  pub from_one : IsInto one wider
  pub from_other : IsInto other wider
