-- All events that activated a task, asked of a whole history.
use Rattle.std.specs.Prelude.{◌≡◌, ℕ, ◌+◌, true, List, [], ◌∷◌, ◌++◌, length, Option, if◌then◌else◌}
use Rattle.plantevents.specs.declared.activator.PendingEvent.{PendingEvent}
use Rattle.plantevents.specs.declared.activator.Activator.{Activator}
use Rattle.plantevents.specs.declared.event.Event.{Event}
use Rattle.plantevents.specs.declared.event.Event.TheVariants.{Heard}
use Rattle.plantevents.specs.Histories.{scans}
use Rattle.plantevents.specs.Readiness.{most_pending, activates, pending_event, lost}

-- the oldest first
abbrev pub arrivals : Option Activator → List Event → List PendingEvent
arrivals a [] = []
arrivals a (Heard b f ∷ h) = if activates a b f then arrivals a h ++ pending_event a b f h ∷ [] else arrivals a h
arrivals a (e ∷ h) = arrivals a h

-- The frame activates task t, and with it 32 events came after the oldest one that was neither given up nor taken.
abbrev pub GivesUp : Option Activator → ℕ → ℕ → ℕ → List Event → Type 0
GivesUp a t b f h =
    (activates a b f ≡ true)
    × (length (arrivals a (Heard b f ∷ h)) ≡ lost a t h + scans t h + 1 + most_pending)
