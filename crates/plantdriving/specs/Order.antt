-- In what order scans are made and buses have their turns (profile).
-- It goes round: all scans; then each bus, in the order of their numbers, sends all that waits for it and hears one
-- frame; and then the scans again.
use Rattle.std.specs.Prelude.{◌≡◌, ◌⊎◌, ℕ, ◌+◌, ◌*◌, ◌<◌, ◌≤◌, List, [], ◌∷◌, ◌++◌, ⊤}
use Rattle.plantevents.specs.declared.event.Event.{Event}
use Rattle.plantevents.specs.declared.event.Event.TheVariants.{Tick, Heard, Hand, Done, Down, Up}
use Rattle.plant.specs.Shown.{Shown}
use Rattle.plantdriving.specs.Quiet.{HasNoScan, HasNoHandout}

-- ---- places of a round

-- the first one is that of the scans
abbrev pub scans_at : ℕ
scans_at = 0

abbrev pub sends_at : ℕ → ℕ
sends_at b = 2 * b + 1

abbrev pub hears_at : ℕ → ℕ
hears_at b = 2 * b + 2

-- the place of an event
abbrev pub place_of : Event → ℕ
place_of (Hand b origin transaction) = sends_at b
place_of (Done b number report) = sends_at b
place_of (Down b) = sends_at b
place_of (Heard b frame) = hears_at b
place_of e = scans_at

-- where it goes on after an event: at its place, but a bus hears one frame in a round
abbrev pub next_place : Event → ℕ
next_place (Heard b frame) = hears_at b + 1
next_place e = place_of e

-- and after these, the newest first
abbrev pub place_after : List Event → ℕ
place_after [] = scans_at
place_after (e ∷ older) = next_place e

-- ---- whoever is passed has nothing to do

-- going round from one place to another, this one is passed
abbrev pub IsPassed : ℕ → ℕ → ℕ → Type 0
IsPassed from to place =
    ((from ≤ place) × (place < to)) ⊎ ((to < from) × ((from ≤ place) ⊎ (place < to)))

-- where the scans are passed, no task is ready; where a bus is passed, it is down, or nothing waits for it
pub record HaveNothing (p : Shown) (from to : ℕ) : Type 0 where
  pub scans : IsPassed from to scans_at → HasNoScan p
  pub buses : (b : ℕ) → b < p.plant.plan.buses → IsPassed from to (sends_at b) → HasNoHandout p b

-- ---- the order of events

-- the plant after these events
abbrev pub with_events : Shown → List Event → Shown
with_events p events = record p { history = events ++ p.history }

-- Each of these events, the newest first, came in its turn: when it came, whoever was passed had nothing to do. None is
-- a moment, and no bus came up.
abbrev pub CameInTurn : Shown → List Event → Type 0
CameInTurn p [] = ⊤
CameInTurn p (Tick m ∷ older) = ⊥
CameInTurn p (Up b ∷ older) = ⊥
CameInTurn p (e ∷ older) = HaveNothing (with_events p older) (place_after older) (place_of e) × CameInTurn p older

-- from p to q there are such events, of which the first is of a round's beginning
pub record IsInTurn (p q : Shown) : Type 0 where
  pub events : List Event
  pub history : q.history ≡ events ++ p.history
  pub order : CameInTurn p events
