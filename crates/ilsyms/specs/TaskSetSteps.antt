-- What is kept of a set of tasks, by their numbers: whether it is empty, its one task, or that it has several.
use Rattle.std.specs.Prelude.{◌≡◌, ◌≢◌, ℕ, List, Bool, Some, slice_get, ◌==◌, if◌then◌else◌}
use Rattle.std.specs.List.{list_any}
use Rattle.ilsyms.specs.declared.task_sets.TaskSet.{TaskSet}
use Rattle.ilsyms.specs.declared.task_sets.TaskSet.TheVariants.{Empty, One, Several}

-- the tasks with the property are those of a set
abbrev pub IsSetOf : (ℕ → Type 0) → TaskSet → Type 0
IsSetOf P Empty = (task : ℕ) → ¬ P task
IsSetOf P (One task) = P task × ((other : ℕ) → P other → other ≡ task)
IsSetOf P Several = (one : ℕ) × (other : ℕ) × P one × P other × (one ≢ other)

-- the tasks of either set
abbrev pub union : TaskSet → TaskSet → TaskSet
union Empty other = other
union one Empty = one
union (One task) (One other) = if task == other then One task else Several
union _ _ = Several

abbrev pub is_among : ℕ → List ℕ → Bool
is_among number numbers = list_any (λ its. its == number) numbers

-- with these tasks too, in the sets that have one of the numbers
abbrev pub with_tasks : List ℕ → TaskSet → ℕ → TaskSet → TaskSet
with_tasks numbers tasks number set = if is_among number numbers then union set tasks else set

-- the sets, each with its number, are those of tasks that are so related to the number
abbrev pub AreSetsOf : (ℕ → ℕ → Type 0) → List TaskSet → Type 0
AreSetsOf R sets = (number : ℕ) (set : TaskSet) → slice_get sets number ≡ Some set → IsSetOf (R number) set
