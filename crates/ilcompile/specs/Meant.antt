-- A task's code does what the task means (IEC 61131-3, 2.7.2 and 3.2).
use Rattle.std.specs.Prelude.{◌≡◌, ℕ, Option, Some}
use Rattle.ilblocks.specs.Stores.{Store}
use Rattle.ilcode.specs.Lasting.{HasLasting, Leaves}
use Rattle.ilcode.specs.Listings.{Listing}

-- from each store with as many variables as last from scan to scan, the runs of the code end with what the scan leaves,
-- and end where it leaves something
pub record IsMeant (scan : Store → Option Store) (code : Listing) : Type 0 where
  pub runs : (from to : Store) → HasLasting code from → scan from ≡ Some to → (steps : ℕ) × Leaves code from steps to
  pub means : (from to : Store) (steps : ℕ) → HasLasting code from → Leaves code from steps to → scan from ≡ Some to
