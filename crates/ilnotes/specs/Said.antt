-- What notes say of a plan and a configuration by themselves: of global variables that have an address, of tasks and
-- of programs (docs/LANGUAGE.md, 'Notes').
use Rattle.std.specs.Prelude.{◌≡◌, ◌⊎◌, ⊤, ℕ, [], List, Option, IfSome, IsSomeAnd, MatchOption, Some, slice_get}
use Rattle.ilsource.specs.Names.{SameName}
use Rattle.ilsource.specs.declared.configuration.InstanceDeclaration.{InstanceDeclaration}
use Rattle.ilsource.specs.declared.name.Name.{Name}
use Rattle.ilnotes.specs.Planned.{IsRead, IsStored, StartsTask}
use Rattle.ilplan.specs.declared.global.Location.{Location}
use Rattle.ilplan.specs.declared.global.Location.TheVariants.{Level, Trigger}
use Rattle.ilplan.specs.Plans.{Planned}
use Rattle.ilnotes.specs.declared.kinds.Kind.{Kind}
use Rattle.ilnotes.specs.declared.kinds.Kind.TheVariants.{LevelNeverStored, NeverRead, OtherIsStored, UnusedTrigger}
use Rattle.ilnotes.specs.declared.note.Found.TheVariants as parts
use Rattle.ilnotes.specs.declared.note.Note.{Note}
use Rattle.ilnotes.specs.declared.note.NotePlace.TheVariants as places

-- the global variable of this number, which is located there, is used: some task stores to it where it is a level, and
-- reads it where it is an input; a trigger is used too where it starts a task
abbrev pub IsUsed : Planned → ℕ → Location → Type 0
IsUsed plan number (Level bus address) = IsStored plan number
IsUsed plan number (Trigger bus source) = IsRead plan number ⊎ StartsTask plan number
IsUsed plan number _ = IsRead plan number

-- the note stands at this name, and names it first
abbrev pub IsOn : Name → Note → Type 0
IsOn name note = (note.place ≡ places.Name name) × (slice_get note.found 0 ≡ Some (parts.Name name))

-- a note says of a level that no task stores to it; the second, that one stores to another variable of its name
abbrev pub IsOfLevel : Kind → Type 0
IsOfLevel LevelNeverStored = ⊤
IsOfLevel OtherIsStored = ⊤
IsOfLevel _ = ⊥

-- a note says of what is located there that it is not used
abbrev pub SaysUnused : Location → Kind → Type 0
SaysUnused (Level bus address) kind = IsOfLevel kind
SaysUnused (Trigger bus source) kind = kind ≡ UnusedTrigger
SaysUnused _ kind = kind ≡ NeverRead

-- where the global variable of this number has an address, there is a note on it exactly where it is not used, which
-- says that
abbrev pub NotesUse : Planned → ℕ → Option Note → Type 0
NotesUse plan number found =
    IsSomeAnd (slice_get plan.globals number) (λ g. IfSome g.location (λ location.
    MatchOption found (IsUsed plan number location)
    (λ note. SaysUnused location note.kind × IsOn g.name note × ¬ IsUsed plan number location)))

-- no program runs in the task of this number
abbrev pub IsIdle : Planned → ℕ → Type 0
IsIdle plan number = IsSomeAnd (slice_get plan.tasks number) (λ t. t.instances ≡ [])

-- the instance of this number is one of the program
abbrev pub IsInstanceAt : List ℕ → Name → List InstanceDeclaration → ℕ → Type 0
IsInstanceAt text program instances number =
    IsSomeAnd (slice_get instances number) (λ i. SameName text i.program program)

-- some instance is
abbrev pub HasInstance : List ℕ → Name → List InstanceDeclaration → Type 0
HasInstance text program instances = (number : ℕ) × IsInstanceAt text program instances number
