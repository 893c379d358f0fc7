-- Counts go on.
use Rattle.std.proofs.Common.{◌≡◌, ℕ, ◌+◌, ◌%◌, ◌^◌, Bool, true, false, ◌&&◌, List, [], ◌∷◌, ◌++◌, ap, arith}
use Rattle.std.specs.Prelude.{if◌then◌else◌, ◌==◌}
use Rattle.dalievent.specs.declared.messages.EventSource.{EventSource}
use Rattle.dalievent.specs.Messages.{is_message}
use Rattle.plantevents.specs.declared.event.Event.{Event}
use Rattle.plantevents.specs.declared.event.Event.TheVariants.{Tick, Heard, Take, Commit, Hand, Done, Down, Up}
use Rattle.plantevents.specs.Histories.{messages, message_count}

heard_both : (here : Bool) (all later front : ℕ) → all ≡ later + front
    → (if here then all + 1 else all) ≡ (if here then later + 1 else later) + front
heard_both true all later front is = omega arith
heard_both false all later front is = is

-- the messages of both histories
both : (bus : ℕ) (source : EventSource) (later front : List Event)
    → messages bus source (later ++ front) ≡ messages bus source later + messages bus source front
both bus source [] front = omega arith
both bus source (Tick m ∷ later) front = both bus source later front
both bus source (Heard b f ∷ later) front =
    heard_both (b == bus && is_message source f) (messages bus source (later ++ front)) (messages bus source later)
    (messages bus source front) (both bus source later front)
both bus source (Take w t s ∷ later) front = both bus source later front
both bus source (Commit w n r ∷ later) front = both bus source later front
both bus source (Hand b s t ∷ later) front = both bus source later front
both bus source (Done b n r ∷ later) front = both bus source later front
both bus source (Down b ∷ later) front = both bus source later front
both bus source (Up b ∷ later) front = both bus source later front

regained : (first later front all : ℕ) → all ≡ later + front
    → (first + all) % 2 ^ 16 ≡ ((first + front) % 2 ^ 16 + later) % 2 ^ 16
regained first later front all is = omega arith

pub goes_on : (first bus : ℕ) (source : EventSource) (later front : List Event)
    → message_count first bus source (later ++ front)
    ≡ message_count (message_count first bus source front) bus source later
goes_on first bus source later front =
    regained first (messages bus source later) (messages bus source front) (messages bus source (later ++ front))
    (both bus source later front)

pub from_zero : (bus : ℕ) (source : EventSource) (h : List Event)
    → message_count 0 bus source h ≡ messages bus source h % 2 ^ 16
from_zero bus source h =
    let n = messages bus source h in
    let same : 0 + n ≡ n = omega arith in ap (λ (k : ℕ). k % 2 ^ 16) same
