-- When a run starts.
use Rattle.std.specs.Prelude.{◌≡◌, ℕ, ◌+◌, ◌≤◌}
use Rattle.limits.specs.Limits.{least_events, most_events, most_total}
use Rattle.ilcompile.specs.Loaded.{Loaded}
use Rattle.plant.specs.declared.open_fault.OpenFault.{OpenFault}
use Rattle.plant.specs.declared.open_fault.OpenFault.TheVariants.{Memory, BadCount, Limit}
use Rattle.plant.specs.Shown.{IsWorkerCount, IsLimitOf}

-- a number of scan workers that a plant may have, and a bus for each of the plan
abbrev pub AreCounts : Loaded → ℕ → ℕ → Type 0
AreCounts setup workers buses = IsWorkerCount workers × (buses ≡ setup.plan.buses)

-- why a run does not start: the counts before the limit; else the allocator may be out of memory
abbrev pub IsStartFault : Loaded → ℕ → ℕ → ℕ → OpenFault → Type 0
IsStartFault setup workers buses limit BadCount = ¬ AreCounts setup workers buses
IsStartFault setup workers buses limit Limit = AreCounts setup workers buses × (¬ IsLimitOf setup.plan.buses limit)
IsStartFault setup workers buses limit Memory = AreCounts setup workers buses × IsLimitOf setup.plan.buses limit

-- a limit with which a run may go on that had this one
abbrev pub IsNextLimit : ℕ → ℕ → Type 0
IsNextLimit before limit = (before ≤ limit) × (limit ≤ most_events)

-- why a run does not go on: the limit; else the allocator may be out of memory. The counts are those of before
abbrev pub IsAgainFault : ℕ → ℕ → OpenFault → Type 0
IsAgainFault before limit BadCount = ⊥
IsAgainFault before limit Limit = ¬ IsNextLimit before limit
IsAgainFault before limit Memory = IsNextLimit before limit

-- so many events more with which a run may go on, where so many places of the history are used: 100 to 1,000,000, and
-- with those that are used no more than a history comes to at most
abbrev pub IsMore : ℕ → ℕ → Type 0
IsMore past more = (least_events ≤ more) × (more ≤ most_events) × (past + more ≤ most_total)

-- why it does not go on so: the events more; else the allocator may be out of memory
abbrev pub IsMoreFault : ℕ → ℕ → OpenFault → Type 0
IsMoreFault past more BadCount = ⊥
IsMoreFault past more Limit = ¬ IsMore past more
IsMoreFault past more Memory = IsMore past more
