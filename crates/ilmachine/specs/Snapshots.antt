-- Snapshots: what one scan of a task's code starts from (IEC 61131-3, 2.7.2, and profile).
use Rattle.std.specs.Prelude.{ℕ, List, slice_get}
use Rattle.std.specs.List.{AllZip}
use Rattle.std.specs.Option.{IsSomeAnd}
use Rattle.iltypes.specs.declared.value.IlType.{IlType}
use Rattle.iltypes.specs.declared.value.Value.{Value}
use Rattle.iltypes.specs.Values.{IsOf, AreOf}
use Rattle.ilblocks.specs.Calls.{IsBlockOf}
use Rattle.ilblocks.specs.Stores.{Lasting, blocks_at_first}
use Rattle.ilverify.specs.Listings.{Listing, lasting_types}
use Rattle.ilverify.specs.Verdicts.{Accepted}

-- the code with its bound, what lasts from the scan before, and the moment
pub record ScanStart : Type 0 where
  pub verified : Accepted
  pub lasting : Lasting
  pub moment : ℕ

abbrev pub start_of : Accepted → Lasting → ℕ → ScanStart
start_of verified lasting moment = record { verified = verified; lasting = lasting; moment = moment }

-- the start from these values, with each block instance as it is before its first call
abbrev pub first_start : Accepted → List Value → ℕ → ScanStart
first_start verified values moment =
    start_of verified (record { slots = values; blocks = blocks_at_first verified.code.kinds }) moment

-- a value for each slot of the programs, in the slot's type, and each block instance is of its kind
pub record IsLastingOf (code : Listing) (lasting : Lasting) : Type 0 where
  pub values : AreOf lasting.slots (lasting_types code)
  pub blocks : AllZip (IsBlockOf code.buses) lasting.blocks code.kinds

-- of variables of these types there is one of this number, and it may have the value
abbrev pub MayHave : List IlType → ℕ → Value → Type 0
MayHave types number value = IsSomeAnd (slice_get types number) (IsOf value)
