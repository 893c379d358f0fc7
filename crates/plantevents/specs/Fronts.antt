-- Since when a task is ready, and whether it is scanned, asked of a whole history. The fronts of h are the lists front
-- with h ≡ later ++ front.
use Rattle.std.specs.Prelude.{◌≡◌, ℕ, ◌≤◌, true, false, List, ◌∷◌, ◌++◌, length, Option, Some}
use Rattle.plantevents.specs.declared.activator.Activator.{Activator}
use Rattle.plantevents.specs.declared.event.Event.{Event}
use Rattle.plantevents.specs.Readiness.{ready, is_take}
use Rattle.plantevents.specs.Histories.{OpenScan, scan}

-- task t is ready after every front of h from length n on, and no Take of t stands at place n or later
pub record IsUnbroken (a : Option Activator) (t : ℕ) (h : List Event) (n : ℕ) : Type 0 where
  pub within : n ≤ length h
  pub is_ready : (later front : List Event) → h ≡ later ++ front → n ≤ length front → ready a t front ≡ true
  pub untaken : (later front : List Event) (e : Event) → h ≡ later ++ e ∷ front → n ≤ length front
      → is_take t e ≡ false

-- n is the least such length
pub record IsSince (a : Option Activator) (t : ℕ) (h : List Event) (n : ℕ) : Type 0 where
  pub unbroken : IsUnbroken a t h n
  pub least : (m : ℕ) → IsUnbroken a t h m → n ≤ m

-- a worker has a scan of task t open
abbrev pub IsScanned : ℕ → List Event → Type 0
IsScanned t h = (w : ℕ) × (running : OpenScan) × (scan w h ≡ Some running) × (running.task ≡ t)
