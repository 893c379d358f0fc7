-- What a plan says by itself: what tasks store and read, what starts them, and which functions and sources are used.
use Rattle.std.specs.Prelude.{◌≡◌, ◌==◌, ℕ, Bool, true, false, List, IsSomeAnd, flat_map, is_some, slice_get}
use Rattle.std.specs.List.{list_any}
use Rattle.ilsource.specs.declared.operand.Operand.{Operand}
use Rattle.ilsource.specs.declared.operand.Operand.TheVariants.{Name as Named}
use Rattle.ilsource.specs.declared.uses.Purpose.{Purpose}
use Rattle.ilsource.specs.declared.uses.Purpose.TheVariants.{Read}
use Rattle.ilsource.specs.declared.uses.Use.{Use}
use Rattle.ilsource.specs.Uses.{uses_in}
use Rattle.ilplan.specs.declared.activation.Activation.TheVariants.{Event}
use Rattle.ilplan.specs.declared.global.Location.{Location}
use Rattle.ilplan.specs.declared.global.Location.TheVariants.{Count, Information, Trigger}
use Rattle.ilplan.specs.declared.slot.SlotOwner.TheVariants.{Global}
use Rattle.ilplan.specs.declared.place.Place.{Place}
use Rattle.ilplan.specs.declared.place.Place.TheVariants.{Slot}
use Rattle.ilplan.specs.Plans.{Planned, PlannedTask, all_lines, stores, used_functions}

-- the slot of the task is the global variable of this number, and some line of the task, reached or not, stores to it
abbrev pub StoresInSlot : ℕ → PlannedTask → ℕ → Type 0
StoresInSlot number task slot =
    IsSomeAnd (slice_get task.slots slot) (λ s. (s.variable ≡ Global number) × (stores task slot ≡ true))

-- the task of this number stores to the global variable
abbrev pub StoresTo : Planned → ℕ → ℕ → Type 0
StoresTo plan number task = IsSomeAnd (slice_get plan.tasks task) (λ t. (slot : ℕ) × StoresInSlot number t slot)

-- some task does
abbrev pub IsStored : Planned → ℕ → Type 0
IsStored plan number = (task : ℕ) × StoresTo plan number task

-- the use reads the slot of this number
abbrev pub is_read_of : ℕ → Purpose → Operand Place → Bool
is_read_of slot Read (Named (Slot number)) = number == slot
is_read_of slot purpose operand = false

abbrev pub reads_slot : ℕ → Use Place → Bool
reads_slot slot u = is_read_of slot u.purpose u.operand

-- all uses of the lines of a task
abbrev pub uses_of_task : PlannedTask → List (Use Place)
uses_of_task task = flat_map uses_in (all_lines task.instances)

-- the slot of the task is the global variable of this number, and some line of the task, reached or not, reads it
abbrev pub ReadsInSlot : ℕ → PlannedTask → ℕ → Type 0
ReadsInSlot number task slot =
    IsSomeAnd (slice_get task.slots slot)
    (λ s. (s.variable ≡ Global number) × (list_any (reads_slot slot) (uses_of_task task) ≡ true))

-- the task of this number reads the global variable
abbrev pub ReadsVariable : Planned → ℕ → ℕ → Type 0
ReadsVariable plan number task = IsSomeAnd (slice_get plan.tasks task) (λ t. (slot : ℕ) × ReadsInSlot number t slot)

-- some task does
abbrev pub IsRead : Planned → ℕ → Type 0
IsRead plan number = (task : ℕ) × ReadsVariable plan number task

-- the event whose trigger the global variable is starts the task of this number
abbrev pub IsStartedBy : Planned → ℕ → ℕ → Type 0
IsStartedBy plan number task = IsSomeAnd (slice_get plan.tasks task) (λ t. t.activation ≡ Event number)

-- it starts some task
abbrev pub StartsTask : Planned → ℕ → Type 0
StartsTask plan number = (task : ℕ) × IsStartedBy plan number task

-- the task of this number uses the function: a line of it calls the function, or a function does that it uses
abbrev pub UsesFunctionIn : Planned → ℕ → ℕ → Type 0
UsesFunctionIn plan number task =
    IsSomeAnd (slice_get plan.tasks task)
    (λ t. IsSomeAnd (slice_get (used_functions plan.functions t) number) (λ f. is_some f ≡ true))

-- some task does
abbrev pub UsesFunction : Planned → ℕ → Type 0
UsesFunction plan number = (task : ℕ) × UsesFunctionIn plan number task

-- the location is a trigger, an information or a count of this source
abbrev pub IsOfSource : ℕ → ℕ → Location → Type 0
IsOfSource bus source (Trigger b s) = (b ≡ bus) × (s ≡ source)
IsOfSource bus source (Information b s) = (b ≡ bus) × (s ≡ source)
IsOfSource bus source (Count b s) = (b ≡ bus) × (s ≡ source)
IsOfSource bus source _ = ⊥

-- the global variable of this number is located there
abbrev pub IsAtSource : Planned → ℕ → ℕ → ℕ → Type 0
IsAtSource plan bus source number =
    IsSomeAnd (slice_get plan.globals number) (λ g. IsSomeAnd g.location (IsOfSource bus source))

-- some global variable is
abbrev pub UsesSource : Planned → ℕ → ℕ → Type 0
UsesSource plan bus source = (number : ℕ) × IsAtSource plan bus source number
