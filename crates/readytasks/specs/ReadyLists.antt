-- What private functions say: the list of the tasks that are ready, in the order in which they go.
use Rattle.std.specs.Prelude.{◌≡◌, ◌≢◌, ℕ, ◌<◌, ◌≤◌, ◌⊎◌, Bool, ◌==◌, List, length, slice_index, All}
use Rattle.std.specs.List.{AllPairs, list_any}
use Rattle.limits.specs.Limits.{most_tasks}
use Rattle.plantevents.specs.Choices.{Rank}
use Rattle.readytasks.specs.TaskSets.{KeptTask, task_at}
use Rattle.readytasks.specs.TaskSetSteps.{is_ready, rank_at}

-- the least priority first, then who has been ready longest, then who was declared first
abbrev pub Leads : Rank → Rank → Type 0
Leads one other =
    (one.priority < other.priority)
    ⊎ ((one.priority ≡ other.priority)
    × ((one.since < other.since) ⊎ ((one.since ≡ other.since) × (one.number < other.number))))

-- the number is in the list
abbrev pub is_listed : List ℕ → ℕ → Bool
is_listed list t = list_any (λ u. t == u) list

-- numbers below n, each before those that its rank leads
pub record AreInOrder (rank : ℕ → Rank) (n : ℕ) (list : List ℕ) : Type 0 where
  pub known : All (λ t. t < n) list
  pub ordered : AllPairs (λ t u. Leads (rank t) (rank u)) list

-- a number that is not in the list belongs there: behind those that lead it, before those that it leads
pub record IsPlaceFor (rank : ℕ → Rank) (list : List ℕ) (t place : ℕ) : Type 0 where
  pub within : place ≤ length list
  pub behind : (k : ℕ) → k < place → Leads (rank (slice_index list k)) (rank t)
  pub before : (k : ℕ) → place ≤ k → k < length list → Leads (rank t) (rank (slice_index list k))

-- the tasks, in their order
abbrev pub IsOrderOf : List KeptTask → List ℕ → Type 0
IsOrderOf tasks list = AreInOrder (rank_at tasks) (length tasks) list

-- At this moment the list has the tasks that are ready, in their order. There is room for all tasks.
pub record IsReadyList (tasks : List KeptTask) (moment : ℕ) (list : List ℕ) : Type 0 where
  pub few : length tasks ≤ most_tasks
  pub order : IsOrderOf tasks list
  pub listed : (t : ℕ) → t < length tasks → is_listed list t ≡ is_ready (task_at tasks t) moment

-- of the other tasks everything is as it was
pub record AreOthersSame (t : ℕ) (before : List KeptTask) (list_before : List ℕ) (after : List KeptTask)
    (list_after : List ℕ) : Type 0 where
  pub count : length after ≡ length before
  pub states : (u : ℕ) → u ≢ t → task_at after u ≡ task_at before u
  pub lists : (u : ℕ) → u ≢ t → is_listed list_after u ≡ is_listed list_before u
