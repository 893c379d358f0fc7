-- What is pending, owed, or in a part, asked of a whole history: each member of these lists by itself.
use Rattle.std.specs.Prelude.{◌≡◌, ◌≢◌, ◌⊎◌, ℕ, ◌<◌, ◌≤◌, true, List, [], ◌∷◌, ◌++◌, length, slice_get, Some}
use Rattle.dalievent.specs.declared.messages.EventSource.{EventSource}
use Rattle.gearcmd.specs.declared.requests.Request.{Request}
use Rattle.ilplan.specs.declared.global.Location.TheVariants.{Information, Count}
use Rattle.ilmachine.specs.Images.{Global}
use Rattle.plantevents.specs.declared.activator.PendingEvent.{PendingEvent}
use Rattle.plantevents.specs.declared.event.Event.{Event}
use Rattle.plantevents.specs.declared.event.Event.TheVariants.{Heard}
use Rattle.plantevents.specs.declared.role.Role.{Role}
use Rattle.dalievent.specs.Messages.{is_message}
use Rattle.plantevents.specs.Plants.{Plant, location, output_at}
use Rattle.plantevents.specs.Variables.{value, whole}
use Rattle.plantevents.specs.Waiting.{OwedLevel, Handout, handed_level, level_class, owed, waiting}
use Rattle.plantevents.specs.Waiting.{request_handout, level_handout, classes}
use Rattle.plantevents.specs.Parts.{Placed, role_of}

-- the list has this item
abbrev pub Has : {X : Type 0} → List X → X → Type 0
Has items x = (place : ℕ) × (slice_get items place ≡ Some x)

-- the pending event is a message of this source, heard on its bus, that stands in the history at its place; and it has
-- the information and the count of the source as they are just after that event
pub record IsPendingEvent (p : Plant) (bus number : ℕ) (source : EventSource) (h : List Event)
    (a : PendingEvent) : Type 0 where
  pub later : List Event
  pub frame : ℕ
  pub front : List Event
  pub stands : h ≡ later ++ Heard bus frame ∷ front
  pub message : is_message source frame ≡ true
  pub place : a.place ≡ length front
  pub information : (global : ℕ) → location p global ≡ Some (Information bus number)
      → value p (Global global) (Heard bus frame ∷ front) ≡ Some (whole a.information)
  pub count : (global : ℕ) → location p global ≡ Some (Count bus number)
      → value p (Global global) (Heard bus frame ∷ front) ≡ Some (whole a.count)

-- the level is the value of the global variable that is located at its address of bus b, it is of class c, and it
-- differs from the level that was handed out last
pub record IsOwed (p : Plant) (b c : ℕ) (h : List Event) (o : OwedLevel) : Type 0 where
  pub address : o.address ≤ 80
  pub global : ℕ
  pub output : output_at p b o.address ≡ Some global
  pub class : level_class p global ≡ c
  pub is_value : value p (Global global) h ≡ Some (whole o.level)
  pub differs : o.level ≢ handed_level b o.address h

-- the event stands at its place in the history, and it comes from this role
pub record IsInPart (role : Role) (h : List Event) (x : Placed) : Type 0 where
  pub later : List Event
  pub front : List Event
  pub stands : h ≡ later ++ x.event ∷ front
  pub is_place : x.place ≡ length front
  pub from : role_of x.event ≡ role

-- it is owed, and no other level of its class that is owed on the bus has a lesser address
pub record IsFirstOwed (p : Plant) (b c : ℕ) (h : List Event) (o : OwedLevel) : Type 0 where
  pub owes : IsOwed p b c h o
  pub first : (other : OwedLevel) → IsOwed p b c h other → o.address ≤ other.address

-- ---- what is handed out

-- nothing of class c waits for bus b or is owed there
abbrev pub HasNothing : Plant → ℕ → List Event → ℕ → Type 0
HasNothing p b h c = (waiting p b c h ≡ []) × (owed p b c h ≡ [])

-- of class c, the oldest request, or where none waits the owed level of the least address
abbrev pub IsFirstOfClass : Plant → ℕ → List Event → ℕ → Handout → Type 0
IsFirstOfClass p b h c x =
    ((r : Request) × (slice_get (waiting p b c h) 0 ≡ Some r) × (x ≡ request_handout c r))
    ⊎ ((o : OwedLevel) × (waiting p b c h ≡ []) × (slice_get (owed p b c h) 0 ≡ Some o) × (x ≡ level_handout c o))

-- the first of the least class that has anything
pub record IsNextHandout (p : Plant) (b : ℕ) (h : List Event) (x : Handout) : Type 0 where
  pub class : ℕ
  pub is_class : Has classes class
  pub before : (c : ℕ) → Has classes c → c < class → HasNothing p b h c
  pub first : IsFirstOfClass p b h class x
