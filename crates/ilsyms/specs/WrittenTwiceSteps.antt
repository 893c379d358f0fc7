-- The tasks that have an instance of a program, and those that store to a global variable.
use Rattle.std.specs.Prelude.{◌≡◌, ◌<◌, ℕ, List, Some, IsSomeAnd, slice_get}
use Rattle.ilsource.specs.SourceTrees.{Tree}
use Rattle.ildeclared.specs.Faults.{SomeOf}
use Rattle.ilscope.specs.Declarations.{declared_programs, DeclaredProgram}
use Rattle.ilscope.specs.UseFaults.{ProgramStores}
use Rattle.ilsyms.specs.declared.tasks.TaskInstance.{TaskInstance}

-- one of the first so many tasks has an instance of the program with this number
abbrev pub HasInstance : List (List TaskInstance) → ℕ → ℕ → ℕ → Type 0
HasInstance tasks bound program task =
    (task < bound) × IsSomeAnd (slice_get tasks task) (λ instances. SomeOf (λ i. i.program ≡ program) instances)

-- one of the first so many programs stores to the global variable, and the task has an instance of it
pub record StoresBefore (tree : Tree) (tasks : List (List TaskInstance)) (bound global task : ℕ) : Type 0 where
  pub number : ℕ
  pub program : DeclaredProgram
  pub below : number < bound
  pub is : slice_get (declared_programs tree) number ≡ Some program
  pub stores : ProgramStores tree global program
  pub runs : IsSomeAnd (slice_get tasks task) (λ instances. SomeOf (λ i. i.program ≡ number) instances)
