-- What private functions take.
use Rattle.std.specs.Prelude.{ℕ, map, List, Option, Some, None, slice_get, option_and_then}
use Rattle.iltypes.specs.declared.value.Value.{Value}
use Rattle.ilplan.specs.declared.global.Location.{Location}
use Rattle.ilplan.specs.declared.global.Location.TheVariants.{Trigger}
use Rattle.ilplan.specs.Plans.{Planned}
use Rattle.ilmachine.specs.declared.overriding.Override.{Override}
use Rattle.ilmachine.specs.Snapshots.{MayHave}
use Rattle.plantevents.specs.declared.activator.PendingEvent.{PendingEvent}
use Rattle.plantevents.specs.declared.event.Event.{Event}
use Rattle.plantevents.specs.Plants.{Plant, location, trigger_of, activator}
use Rattle.plantevents.specs.Readiness.{pending}
use Rattle.plantevents.specs.Variables.{event_value, pending_value}

-- the value of a global variable that a task takes with this pending event, whose trigger is located at this number of
-- a bus
abbrev pub event_at : Planned → ℕ → ℕ → PendingEvent → ℕ → Option Value
event_at plan bus number event global =
    option_and_then (event_value bus number event) (option_and_then (λ g. g.location) (slice_get plan.globals global))

-- an override of a global variable
abbrev pub given_to : ℕ → Value → Override
given_to global value = record { global = global; value = value }

-- it is of the variable's type
abbrev pub IsInType : Planned → Override → Type 0
IsInType plan given = MayHave (map (λ g. g.value_type) plan.globals) given.global given.value

-- the bus and the number there, where this is the trigger of a source
abbrev pub trigger_place : Option Location → Option (ℕ × ℕ)
trigger_place (Some (Trigger bus number)) = Some (bus, number)
trigger_place _ = None

-- what task t takes in place of the value of a global variable
abbrev pub taken_at : Plant → List Event → ℕ → ℕ → Option Value
taken_at p h t global =
    pending_value (trigger_of p t) (slice_get (pending (activator p t) t h) 0) (location p global)
