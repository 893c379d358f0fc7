-- What is kept of the levels that are owed.
use Rattle.std.specs.Prelude.{◌≡◌, ℕ, ◌<◌, Bool, true, false, List, length, slice_index_or, Option, Some, None, is_some}
use Rattle.std.specs.Int.{bit_at}
use Rattle.busqueue.specs.declared.class.Class.{Class}
use Rattle.busqueue.specs.declared.class.Class.TheVariants.{UserAction, Configuration, AutomaticAction, Query}
use Rattle.busqueue.specs.Queues.{class_number}
use Rattle.plantevents.specs.declared.event.Event.{Event}
use Rattle.plantevents.specs.Plants.{Plant}
use Rattle.plantevents.specs.Waiting.{owed_at}
use Rattle.plantbuses.specs.declared.owed.OwedLevels.{OwedLevels}
use Rattle.plantbuses.specs.AddressSets.{one_if}

-- ---- of a bus

-- the addresses of the levels of one class that are owed
abbrev pub addresses_of : Class → OwedLevels → ℕ
addresses_of UserAction levels = levels.event
addresses_of Configuration levels = 0
addresses_of AutomaticAction levels = levels.cyclic
addresses_of Query levels = 0

-- a level of the class is owed at address a of bus b
abbrev pub owes : Plant → ℕ → List Event → Class → ℕ → Bool
owes p b h class a = is_some (owed_at p b (class_number class) h a)

-- the bit of an address says whether one is
abbrev pub OwesAt : Plant → ℕ → List Event → OwedLevels → Class → ℕ → Type 0
OwesAt p b h levels class a = bit_at (addresses_of class levels) a ≡ one_if (owes p b h class a)

abbrev pub OwedFollows : Plant → ℕ → List Event → OwedLevels → Type 0
OwedFollows p b h levels = (class : Class) (a : ℕ) → a < 81 → OwesAt p b h levels class a

-- the least address at which a level of the class is owed
abbrev pub IsLeastOwed : Plant → ℕ → Class → List Event → Option ℕ → Type 0
IsLeastOwed p b class h None = (a : ℕ) → a < 81 → owes p b h class a ≡ false
IsLeastOwed p b class h (Some a) =
    (a < 81) × (owes p b h class a ≡ true) × ((m : ℕ) → m < a → owes p b h class m ≡ false)

-- ---- of each bus

-- what stands past the end of the list
abbrev pub no_levels : OwedLevels
no_levels = record { event = 0; cyclic = 0 }

abbrev pub owed_on : List OwedLevels → ℕ → OwedLevels
owed_on owed b = slice_index_or owed b no_levels

abbrev pub OwedFollow : Plant → List Event → List OwedLevels → Type 0
OwedFollow p h owed =
    (length owed ≡ p.plan.buses) × ((b : ℕ) → b < p.plan.buses → OwedFollows p b h (owed_on owed b))
