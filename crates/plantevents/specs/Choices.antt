-- Which task is taken (IEC 61131-3, 2.7.2, and profile).
use Rattle.std.specs.Prelude.{◌≡◌, ℕ, ◌<◌, ◌≤◌, ◌⊎◌, Bool, true, false, not, ◌&&◌, List, length, Option, Some, None}
use Rattle.plantevents.specs.declared.event.Event.{Event}
use Rattle.plantevents.specs.Plants.{Plant, activator, priority}
use Rattle.plantevents.specs.Histories.{is_scanned}
use Rattle.plantevents.specs.Readiness.{ready, since}

-- the rank of a task: its priority, the length since which it is ready, and its number
pub record Rank : Type 0 where
  pub priority : ℕ
  pub since : ℕ
  pub number : ℕ

-- the least priority first, then who has been ready longest, then who was declared first
abbrev pub Precedes : Rank → Rank → Type 0
Precedes one other =
    (one.priority < other.priority)
    ⊎ ((one.priority ≡ other.priority)
    × ((one.since < other.since) ⊎ ((one.since ≡ other.since) × (one.number ≤ other.number))))

-- of the numbers below n that are free, t is the one whose rank precedes the others'
pub record IsFirstFree (is_free : ℕ → Bool) (rank : ℕ → Rank) (n t : ℕ) : Type 0 where
  pub known : t < n
  pub free : is_free t ≡ true
  pub first : (u : ℕ) → u < n → is_free u ≡ true → Precedes (rank t) (rank u)

-- the first that is free, or none
abbrev pub Chooses : (ℕ → Bool) → (ℕ → Rank) → ℕ → Option ℕ → Type 0
Chooses is_free rank n (Some t) = IsFirstFree is_free rank n t
Chooses is_free rank n None = (t : ℕ) → t < n → is_free t ≡ false

-- task t is ready, and no scan of it is open
abbrev pub is_free : Plant → List Event → ℕ → Bool
is_free p h t = ready (activator p t) t h && not (is_scanned t h)

abbrev pub rank : Plant → List Event → ℕ → Rank
rank p h t = record { priority = priority p t; since = since (activator p t) t h; number = t }

-- task t is the next to be taken
abbrev pub IsNextTask : Plant → List Event → ℕ → Type 0
IsNextTask p h t = IsFirstFree (is_free p h) (rank p h) (length p.plan.tasks) t
