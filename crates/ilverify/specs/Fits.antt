-- When a run stands as an entry says (profile).
use Rattle.std.specs.Prelude.{◌≡◌, Option, Some, None, ⊤}
use Rattle.std.specs.List.{AllZip}
use Rattle.iltypes.specs.declared.value.Value.{Value}
use Rattle.ilcode.specs.Stores.{IsStoreOf}
use Rattle.ilcode.specs.declared.nesting.Opened.{Opened}
use Rattle.ilcode.specs.Listings.{Listing, shape_of}
use Rattle.ilcode.specs.Steps.{Configuration}
use Rattle.ilverify.specs.declared.entry.Entry.{Entry}
use Rattle.ilverify.specs.declared.known.Known.{Known}
use Rattle.ilverify.specs.declared.nesting.KnownOpened.{KnownOpened}
use Rattle.ilverify.specs.Knowns.{IsKnown}
use Rattle.ilverify.specs.Marks.{IsMarked}

-- there is a current result and it is known so, where a current result is known
abbrev pub IsResultKnown : Option Value → Option Known → Type 0
IsResultKnown value None = ⊤
IsResultKnown None (Some known) = ⊥
IsResultKnown (Some value) (Some known) = IsKnown value known

-- the operator waits, and the saved result is known so
pub record IsOpenedKnown (opened : Opened) (known : KnownOpened) : Type 0 where
  pub operator : opened.operator ≡ known.operator
  pub saved : IsKnown opened.saved known.saved

-- each value is of its type, and all is as the entry says
pub record Fits (code : Listing) (entry : Entry) (c : Configuration) : Type 0 where
  pub typed : IsStoreOf (shape_of code) c.store
  pub slots : AllZip IsKnown c.store.slots entry.slots
  pub result : IsResultKnown c.result entry.result
  pub mark : IsMarked c.store.slots c.result entry.mark
  pub nesting : AllZip IsOpenedKnown c.nesting entry.nesting
