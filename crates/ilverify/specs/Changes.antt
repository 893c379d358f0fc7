-- What is known after a change, and on each way from a word.
use Rattle.std.specs.Prelude.{◌∷◌, drop, Some, None, slice_set}
use Rattle.std.specs.Option.{option_map}
use Rattle.ilcode.specs.Listings.{Listing}
use Rattle.ilverify.specs.declared.change.Change.{Change}
use Rattle.ilverify.specs.declared.change.Change.TheVariants as changes
use Rattle.ilverify.specs.declared.change.Changes.{Changes}
use Rattle.ilverify.specs.declared.entry.Entry.{Entry}
use Rattle.ilverify.specs.Rules.{Ways, returned}

-- the entry after the change
abbrev pub changed : Listing → Entry → Change → Entry
changed code entry (changes.Give known mark) =
    record { slots = entry.slots; result = Some known; mark = mark; nesting = entry.nesting }
changed code entry (changes.Write slot known) = record entry { slots = slice_set entry.slots slot known }
changed code entry changes.Keep = entry
changed code entry changes.Unmark = record entry { mark = None }
changed code entry changes.Forget = record entry { result = None; mark = None }
changed code entry (changes.Open opened) =
    record { slots = entry.slots; result = None; mark = None; nesting = opened ∷ entry.nesting }
changed code entry (changes.Close known) =
    record { slots = entry.slots; result = Some known; mark = None; nesting = drop 1 entry.nesting }
changed code entry (changes.GiveSlot slot known) =
    record entry { slots = slice_set entry.slots slot known; mark = None }
changed code entry (changes.Return function) = returned code entry function

-- what is known on each way after the changes
abbrev pub ways_of : Listing → Entry → Changes → Ways
ways_of code entry c =
    record { next = option_map (changed code entry) c.next; target = option_map (changed code entry) c.target }
