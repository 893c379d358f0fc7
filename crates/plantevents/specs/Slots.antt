-- How the slots of a plan's task stand in the process image.
use Rattle.std.specs.Prelude.{◌≡◌, ℕ, ◌-◌, length, Some, None, if◌then◌else◌}
use Rattle.iltypes.specs.declared.value.Value.{Value}
use Rattle.ilplan.specs.declared.slot.SlotOwner as slots
use Rattle.ilplan.specs.declared.slot.SlotOwner.TheVariants as slot
use Rattle.ilplan.specs.Plans.{PlannedTask, stores}
use Rattle.ilmachine.specs.Images.{Global, Own, variable_in, written_in, value_of}
use Rattle.plantevents.specs.Plants.{Plant, externals_of, opening, layout}

-- the number of a slot among those of a task's own variables, which stand behind the global ones
abbrev pub own_number : PlannedTask → ℕ → ℕ
own_number task number = number - length (externals_of task)

-- The slot of this number of task t is that of this variable. A global variable is written from it where a program of
-- the task stores to it. An own variable is written from it, and has this value at first.
abbrev pub IsSlotOf : Plant → ℕ → PlannedTask → ℕ → Value → slots.SlotOwner → Type 0
IsSlotOf p t task number initial (slot.Global global) =
    (variable_in (layout p) t number ≡ Some (Global global))
    × (written_in (layout p) t number ≡ (if stores task number then Some (Global global) else None))
IsSlotOf p t task number initial (slot.Own instance name) =
    (variable_in (layout p) t number ≡ Some (Own t (own_number task number)))
    × (written_in (layout p) t number ≡ Some (Own t (own_number task number)))
    × (value_of (opening p) (Own t (own_number task number)) ≡ Some initial)
