-- A plant as callers see it, and how many places of its history are kept back (profile).
use Rattle.std.specs.Prelude.{ℕ, ◌<◌, ◌≤◌, zero, suc, ◌+◌, ◌==◌, Bool, true, false, not, if◌then◌else◌, List, [], ◌∷◌}
use Rattle.std.specs.Prelude.{◌-◌, length}
use Rattle.std.specs.Prelude.{replicate, slice_set, slice_index_or, is_some, nat_lt}
use Rattle.limits.specs.Limits.{few_buses, most_workers, least_events, least_events_of_many, most_events}
use Rattle.ilcompile.specs.Loaded.{Loaded}
use Rattle.plant.specs.declared.open_fault.OpenFault.{OpenFault}
use Rattle.plant.specs.declared.open_fault.OpenFault.TheVariants.{Memory, BadCount, Limit}
use Rattle.plantevents.specs.declared.role.Role.{Role}
use Rattle.plantevents.specs.declared.role.Role.TheVariants.{Worker, Bus, Clock}
use Rattle.plantevents.specs.declared.event.Event.{Event}
use Rattle.plantevents.specs.declared.event.Event.TheVariants.{Tick, Heard, Hand, Done}
use Rattle.plantevents.specs.Plants.{Plant}
use Rattle.plantevents.specs.Histories.{scan, is_down}

-- which roles have a place of the history kept back: the clock for a tick, and each bus for a frame that is heard
pub record Reserved : Type 0 where
  pub clock : Bool
  pub buses : List Bool

-- what a plant is made of, how many events and places kept back it has at most, its history, and for whom places are
-- kept back
pub record Shown : Type 0 where
  pub plant : Plant
  pub limit : ℕ
  pub history : List Event
  pub reserved : Reserved

-- the plan and the codes of a text, with so many scan workers
abbrev pub plant_of : Loaded → ℕ → Plant
plant_of setup workers = record { plan = setup.plan; codes = setup.codes; workers = workers }

-- ---- how a plant is opened

abbrev pub IsWorkerCount : ℕ → Type 0
IsWorkerCount workers = (1 ≤ workers) × (workers ≤ most_workers)

abbrev pub IsLimit : ℕ → Type 0
IsLimit limit = (least_events ≤ limit) × (limit ≤ most_events)

-- more than a few buses want a longer history
abbrev pub IsRoomy : ℕ → ℕ → Type 0
IsRoomy buses limit = few_buses < buses → least_events_of_many ≤ limit

-- a limit that a plant of so many buses may have
abbrev pub IsLimitOf : ℕ → ℕ → Type 0
IsLimitOf buses limit = IsLimit limit × IsRoomy buses limit

-- why a plant of so many buses is not opened: the number of workers before the limit; else the allocator may be out of
-- memory
abbrev pub IsOpenFault : ℕ → ℕ → ℕ → OpenFault → Type 0
IsOpenFault buses workers limit BadCount = ¬ IsWorkerCount workers
IsOpenFault buses workers limit Limit = IsWorkerCount workers × (¬ IsLimitOf buses limit)
IsOpenFault buses workers limit Memory = IsWorkerCount workers × IsLimitOf buses limit

-- a plant to which nothing has happened
abbrev pub opened : Loaded → ℕ → ℕ → Shown
opened setup workers limit =
    record {
      plant = plant_of setup workers;
      limit = limit;
      history = [];
      reserved = record { clock = false; buses = replicate setup.plan.buses false };
    }

-- ---- places kept back

-- whether a place is kept back for a role; none ever is for a scan worker
abbrev pub is_reserved_in : Role → Reserved → Bool
is_reserved_in Clock reserved = reserved.clock
is_reserved_in (Bus b) reserved = slice_index_or reserved.buses b false
is_reserved_in (Worker w) reserved = false

abbrev pub is_reserved : Role → Shown → Bool
is_reserved role p = is_reserved_in role p.reserved

abbrev pub with_place : Role → Reserved → Reserved
with_place Clock reserved = record reserved { clock = true }
with_place (Bus b) reserved = record reserved { buses = slice_set reserved.buses b true }
with_place (Worker w) reserved = reserved

-- a place is kept back for this role
abbrev pub reserving : Role → Shown → Shown
reserving role p = record p { reserved = with_place role p.reserved }

-- a tick and a frame that is heard use the place that is kept back for them
abbrev pub after_use : Event → Reserved → Reserved
after_use (Tick m) reserved = record reserved { clock = false }
after_use (Heard b f) reserved = record reserved { buses = slice_set reserved.buses b false }
after_use e reserved = reserved

-- the plant with one event more
abbrev pub grown : Shown → Event → Shown
grown p e = record p { history = e ∷ p.history; reserved = after_use e p.reserved }

-- ---- how many places are kept

-- how many transactions were handed to bus b of which no report came: one may be open, and in others the bus went down
abbrev pub unreported : ℕ → List Event → ℕ
unreported b [] = 0
unreported b (Hand c s t ∷ h) = if c == b then unreported b h + 1 else unreported b h
unreported b (Done c n r ∷ h) = if c == b then unreported b h - 1 else unreported b h
unreported b (e ∷ h) = unreported b h

-- the sum of these numbers below n
abbrev pub sum_below : (ℕ → ℕ) → ℕ → ℕ
sum_below each zero = 0
sum_below each (suc n) = sum_below each n + each n

-- how many of the numbers below n pass the test
abbrev pub count_below : (ℕ → Bool) → ℕ → ℕ
count_below test zero = 0
count_below test (suc n) = count_below test n + (if test n then 1 else 0)

-- how many of these are so
abbrev pub count_true : List Bool → ℕ
count_true [] = 0
count_true (b ∷ more) = (if b then 1 else 0) + count_true more

-- the places for events to come: the Commits of the scans that are open, the Dones of the transactions without report,
-- the Downs of the buses that are not down, and what is kept back
abbrev pub kept : Shown → ℕ
kept p =
    count_below (λ w. is_some (scan w p.history)) p.plant.workers
    + sum_below (λ b. unreported b p.history) p.plant.plan.buses
    + count_below (λ b. not (is_down b p.history)) p.plant.plan.buses
    + (count_true p.reserved.buses + (if p.reserved.clock then 1 else 0))

-- how many places of the history are used: by its events, and by what is kept for events to come
abbrev pub used : Shown → ℕ
used p = length p.history + kept p

-- no place is left for an event and the one that it keeps
abbrev pub is_full : Shown → Bool
is_full p = nat_lt p.limit (length p.history + kept p + 2)
