-- What lasts from scan to scan: the slots of the programs. Those of functions are behind them, hold FALSE or their lower
-- limits where a run begins, and are left out where it ends (profile).
use Rattle.std.specs.Prelude.{◌≡◌, ℕ, ◌++◌, List, length, map, take, drop, false}
use Rattle.iltypes.specs.declared.value.IlType.{IlType}
use Rattle.iltypes.specs.declared.value.IlType.TheVariants as types
use Rattle.iltypes.specs.declared.value.Value.{Value}
use Rattle.iltypes.specs.declared.value.Value.TheVariants as values
use Rattle.ilblocks.specs.Stores.{Store}
use Rattle.ilcode.specs.Listings.{Listing, slots_end, lasting_types}
use Rattle.ilcode.specs.Steps.{Ends}

-- FALSE, or the lower limit
abbrev pub least_of : IlType → Value
least_of types.Bool = values.Bool false
least_of (types.Int range) = values.Int range.lo

-- what functions' slots hold where a run begins
abbrev pub least_values : Listing → List Value
least_values code = map least_of (drop (slots_end code 0) code.slots)

-- the store has as many variables as last
abbrev pub HasLasting : Listing → Store → Type 0
HasLasting code s = length s.slots ≡ length (lasting_types code)

-- the store from which a run begins: with the functions' slots behind those that last
abbrev pub begun : Listing → Store → Store
begun code s = record s { slots = s.slots ++ least_values code }

-- what is left of the store with which it ends
abbrev pub left_of : Listing → Store → Store
left_of code s = record s { slots = take (slots_end code 0) s.slots }

-- the run of the code from this store, with the functions' slots, ends after so many steps, and this is what is left
pub record Leaves (code : Listing) (from : Store) (steps : ℕ) (to : Store) : Type 0 where
  pub end : Store
  pub run : Ends code (begun code from) steps end
  pub left : to ≡ left_of code end
