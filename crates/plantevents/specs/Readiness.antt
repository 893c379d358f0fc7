-- Which tasks are ready, and since when (IEC 61131-3, 2.7.2, and profile).
use Rattle.std.specs.Prelude.{ℕ, ◌+◌, ◌/◌, ◌==◌, ◌&&◌, Bool, true, false, not, List, [], ◌∷◌, ◌++◌, length, drop}
use Rattle.std.specs.Prelude.{Option, Some, None, if◌then◌else◌, nat_lt}
use Rattle.circular_buffer.specs.Buffer.{keep_last}
pub use Rattle.limits.specs.Limits.{most_pending}
use Rattle.plantevents.specs.declared.activator.PendingEvent.{PendingEvent}
use Rattle.plantevents.specs.declared.activator.Activator.{Activator}
use Rattle.plantevents.specs.declared.activator.Activator.TheVariants.{Interval, Messages}
use Rattle.plantevents.specs.declared.event.Event.{Event}
use Rattle.plantevents.specs.declared.event.Event.TheVariants.{Heard, Take}
use Rattle.dalievent.specs.Messages.{is_message, information}
use Rattle.plantevents.specs.Histories.{moment, message_count}

abbrev pub is_take : ℕ → Event → Bool
is_take t (Take w u s) = u == t
is_take t e = false

-- the moment of the last Take of task t
abbrev pub last_take : ℕ → List Event → Option ℕ
last_take t [] = None
last_take t (Take w u s ∷ h) = if u == t then Some (moment h) else last_take t h
last_take t (e ∷ h) = last_take t h

-- the frame, heard on the bus, activates such a task
abbrev pub activates : Option Activator → ℕ → ℕ → Bool
activates (Some (Messages bus source first)) b f = b == bus && is_message source f
activates _ b f = false

-- the pending event by it: what the source's information and count are just after it
abbrev pub pending_event : Option Activator → ℕ → ℕ → List Event → PendingEvent
pending_event (Some (Messages bus source first)) b f h =
    record {
      place = length h;
      information = information source f;
      count = message_count first bus source (Heard b f ∷ h);
    }
pending_event _ b f h = record { place = length h; information = 0; count = 0 }

-- The events that activated task t and for which it was not taken, the oldest first. At most 32 are pending: one more
-- gives up the oldest. A Take takes the oldest.
abbrev pub pending : Option Activator → ℕ → List Event → List PendingEvent
pending a t [] = []
pending a t (Heard b f ∷ h) =
    if activates a b f then keep_last most_pending (pending a t h ++ pending_event a b f h ∷ []) else pending a t h
pending a t (Take w u s ∷ h) = if u == t then drop 1 (pending a t h) else pending a t h
pending a t (e ∷ h) = pending a t h

-- how many were given up
abbrev pub lost : Option Activator → ℕ → List Event → ℕ
lost a t [] = 0
lost a t (Heard b f ∷ h) =
    if activates a b f && not (nat_lt (length (pending a t h)) most_pending) then lost a t h + 1 else lost a t h
lost a t (e ∷ h) = lost a t h

-- never taken, or the number of whole intervals has grown since
abbrev pub is_due : ℕ → ℕ → Option ℕ → Bool
is_due interval m None = true
is_due interval m (Some before) = nat_lt (before / interval) (m / interval)

-- by the moment, that of the last Take, and what is pending
abbrev pub ready_by : Option Activator → ℕ → Option ℕ → List PendingEvent → Bool
ready_by (Some (Interval interval)) m before waiting = is_due interval m before
ready_by (Some (Messages bus source first)) m before waiting = nat_lt 0 (length waiting)
ready_by None m before waiting = false

-- whether task t is ready
abbrev pub ready : Option Activator → ℕ → List Event → Bool
ready a t h = ready_by a (moment h) (last_take t h) (pending a t h)

-- the length of the history from which on task t, if it is ready, was ready without a break; its Take is a break
abbrev pub since : Option Activator → ℕ → List Event → ℕ
since a t [] = 0
since a t (e ∷ h) =
    if is_take t e then length h + 1 else if ready a t h then since a t h else length h + 1
