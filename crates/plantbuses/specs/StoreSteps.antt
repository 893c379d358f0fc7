-- What private functions note of what a task stores.
use Rattle.std.specs.Prelude.{◌≡◌, ℕ, ◌<◌, Bool, false, List, [], length, slice_get, Option, Some, None}
use Rattle.std.specs.Prelude.{if◌then◌else◌}
use Rattle.std.specs.List.{list_any}
use Rattle.busqueue.specs.declared.class.Class.{Class}
use Rattle.ilplan.specs.Plans.{Planned}
use Rattle.ilmachine.specs.declared.external.External.{External}
use Rattle.ilmachine.specs.declared.slots.StoredSlot.{StoredSlot}
use Rattle.ilmachine.specs.Images.{TaskLayout, Layout}
use Rattle.plantevents.specs.declared.event.Event.{Event}
use Rattle.plantevents.specs.Plants.{Plant}
use Rattle.plantbuses.specs.declared.outputs.LevelOutput.{LevelOutput}
use Rattle.plantbuses.specs.declared.owed.OwedLevels.{OwedLevels}
use Rattle.plantbuses.specs.KeptSteps.{KeptBus, bus_at}
use Rattle.plantbuses.specs.OutputSteps.{planned, is_at, level_of, OutputsFollow}
use Rattle.plantbuses.specs.OwedSteps.{OwesAt, owed_on}

-- the bus and the address of the level at which the variable is located, where the task stores it
abbrev pub store_place : Planned → External → Option (ℕ × ℕ)
store_place plan e = if e.stored then level_of plan e.global else None

-- one of these is stored to the level of address a of bus b
abbrev pub stores_at : Planned → ℕ → ℕ → List External → Bool
stores_at plan b a externals = list_any (λ e. is_at b a (store_place plan e)) externals

-- each bit is right but for those of levels that these are stored to
abbrev pub OwedBeside : Plant → List Event → List External → List OwedLevels → Type 0
OwedBeside p h externals owed =
    (b : ℕ) (class : Class) (a : ℕ) → b < p.plan.buses → a < 81 → stores_at p.plan b a externals ≡ false
    → OwesAt p b h (owed_on owed b) class a

-- the same of slots from which a scan stores
abbrev pub has_store_at : Planned → ℕ → ℕ → List StoredSlot → Bool
has_store_at plan b a stores = list_any (λ s. is_at b a (level_of plan s.global)) stores

abbrev pub OwedBesideSlots : Plant → List Event → List StoredSlot → List OwedLevels → Type 0
OwedBesideSlots p h stores owed =
    (b : ℕ) (class : Class) (a : ℕ) → b < p.plan.buses → a < 81 → has_store_at p.plan b a stores ≡ false
    → OwesAt p b h (owed_on owed b) class a

-- the global variables of task t
abbrev pub externals_by : Option TaskLayout → List External
externals_by (Some t) = t.externals
externals_by None = []

abbrev pub externals_at : Layout → ℕ → List External
externals_at layout t = externals_by (slice_get layout.tasks t)

-- what is kept of the levels of each bus of the plan: what is located there, and what was handed out last
pub record AreTables (plan : Planned) (outputs : List (List (Option LevelOutput))) (buses : List KeptBus) : Type 0 where
  pub located : OutputsFollow (planned plan) outputs
  pub count : length buses ≡ plan.buses
  pub levels : (b : ℕ) → b < plan.buses → length (bus_at buses b).levels ≡ 81
