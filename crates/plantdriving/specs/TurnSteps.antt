-- What private functions do.
use Rattle.std.specs.Prelude.{◌≡◌, ◌≢◌, ◌⊎◌, ℕ, ◌+◌, ◌<◌, ◌≤◌, Bool, true, false, List, [], ◌∷◌, ◌++◌, length}
use Rattle.std.specs.Prelude.{Result, Ok, Err, Option, Some, None, ⊤}
use Rattle.buslink.specs.BusLog.{BusLog, IsSameBus}
use Rattle.plantevents.specs.declared.event.Event.{Event}
use Rattle.plantevents.specs.declared.event.Event.TheVariants.{Heard, Down}
use Rattle.plantevents.specs.Histories.{sent_in, heard_in, downs_in, ups_in, given_in}
use Rattle.buslink.specs.Attempts.{ReportParts}
use Rattle.buslink.specs.declared.marks.Outcome.{Outcome}
use Rattle.buslink.specs.declared.marks.Outcome.TheVariants as outcome
use Rattle.plant.specs.declared.refusal.CallRefusal.TheVariants.{NothingReady, BusDown}
use Rattle.plant.specs.Shown.{Shown}
use Rattle.plantdriving.specs.declared.halt.Halt.{Halt}
use Rattle.plantdriving.specs.declared.halt.Halt.TheVariants.{Refused, Memory, Unwritten}
use Rattle.plantdriving.specs.declared.happened.Happened.TheVariants as what
use Rattle.plantdriving.specs.declared.happened.Told.{Told}
use Rattle.plantdriving.specs.Driven.{AreHeardUpTo, IsDriven}
use Rattle.plantdriving.specs.Links.{IsLinked, HasHeard, log_of}
use Rattle.plantdriving.specs.Open.{HasNothingOpen}
use Rattle.plantdriving.specs.Order.{CameInTurn, HaveNothing, IsInTurn, place_after}
use Rattle.plantdriving.specs.Quiet.{HasNoHandout, HasNoFrame}
use Rattle.plantdriving.specs.Tellings.{grown_by}

-- nothing happened on bus b from h to g
pub record IsSameOn (b : ℕ) (h g : List Event) : Type 0 where
  pub sent : sent_in b g ≡ sent_in b h
  pub heard : heard_in b g ≡ heard_in b h
  pub downs : downs_in b g ≡ downs_in b h
  pub ups : ups_in b g ≡ ups_in b h

-- q is the plant p after more events, none of which is of the clock
pub record IsLater (p q : Shown) : Type 0 where
  pub later : List Event
  pub history : q.history ≡ later ++ p.history
  pub plant : q.plant ≡ p.plant
  pub limit : q.limit ≡ p.limit
  pub given : given_in q.history ≡ given_in p.history
  pub idle : HasNothingOpen p → HasNothingOpen q

-- what happened from p to q was of bus b alone, whose log goes with it
pub record IsBusStep (b : ℕ) (p q : Shown) (log after : BusLog) : Type 0 where
  pub later : IsLater p q
  pub same : IsSameBus log after
  pub own : (first : BusLog) → IsLinked first b p.history log → IsLinked first b q.history after
  pub others : (c : ℕ) → c ≢ b → IsSameOn c p.history q.history
  pub hears : HasHeard log after

-- what happened from p to q was of no bus
pub record IsScanStep (p q : Shown) : Type 0 where
  pub later : IsLater p q
  pub buses : (b : ℕ) → IsSameOn b p.history q.history

-- whether a turn did anything: then there are more events, and else this is why
abbrev pub Tells : Shown → Shown → Type 0 → Result Bool Halt → Type 0
Tells p q why (Ok true) = length p.history < length q.history
Tells p q why (Ok false) = (q.history ≡ p.history) × why
Tells p q why (Err halt) = ⊤

-- observers were told of what was done, or one of them failed
abbrev pub IsTold : Result Bool Halt → Type 0
IsTold (Ok any) = any ≡ true
IsTold (Err (Unwritten error)) = ⊤
IsTold (Err Memory) = ⊥
IsTold (Err (Refused refusal)) = ⊥

-- so many turns were made from p to q, each of which did something, and whether any was
pub record HasTurned (p q : Shown) (turns : ℕ) (any : Bool) : Type 0 where
  pub each : turns + length p.history ≤ length q.history
  pub some : any ≡ true → length p.history < length q.history
  pub none : any ≡ false → q.history ≡ p.history

-- a refusal to hand something out says that there is nothing to be sent, or it is told
abbrev pub IsIdleOr : Halt → Result Bool Halt → Type 0
IsIdleOr halt (Ok any) = (any ≡ false) × ((halt ≡ Refused NothingReady) ⊎ (halt ≡ Refused BusDown))
IsIdleOr halt (Err other) = (other ≡ halt) × (¬ (halt ≡ Refused NothingReady)) × (¬ (halt ≡ Refused BusDown))

-- the buses below n have nothing to do
pub record AreQuiet (p : Shown) (before after : List BusLog) (n : ℕ) : Type 0 where
  pub sent : (b : ℕ) → b < n → HasNoHandout p b
  pub heard : (b : ℕ) → b < n → HasNoFrame p b (log_of before b) (log_of after b)

-- some of the buses below n did something from p to q, or none of them has anything to do
pub record HaveTurned (p q : Shown) (before after : List BusLog) (n : ℕ) (any : Bool) : Type 0 where
  pub some : any ≡ true → length p.history < length q.history
  pub none : any ≡ false → (q.history ≡ p.history) × AreQuiet p before after n

-- ---- what is heard

-- these events are frames of bus b and its Down
abbrev pub AreHeardOn : ℕ → List Event → Type 0
AreHeardOn b [] = ⊤
AreHeardOn b (Heard c frame ∷ older) = (c ≡ b) × AreHeardOn b older
AreHeardOn b (Down c ∷ older) = (c ≡ b) × AreHeardOn b older
AreHeardOn b (e ∷ older) = ⊥

-- nothing else happened from p to q
pub record IsHearing (b : ℕ) (p q : Shown) : Type 0 where
  pub events : List Event
  pub history : q.history ≡ events ++ p.history
  pub only : AreHeardOn b events

-- each of the buses below n, in the order of their numbers, heard all that had come
pub record HaveHeard (p q : Shown) (before after : List BusLog) (n : ℕ) : Type 0 where
  pub driven : IsDriven p q before after
  pub events : List Event
  pub history : q.history ≡ events ++ p.history
  pub order : AreHeardUpTo n events
  pub silent : (b : ℕ) → b < n → HasNoFrame q b (log_of before b) (log_of after b)

-- buses, in the order of their numbers, heard something
pub record AreHeardInOrder (p q : Shown) : Type 0 where
  pub events : List Event
  pub history : q.history ≡ events ++ p.history
  pub order : AreHeardUpTo p.plant.plan.buses events

-- ---- whose turn it is

-- the events from p to q came in their turns, and now it is the turn of this place
pub record IsTurnOf (p q : Shown) (place : ℕ) : Type 0 where
  pub events : List Event
  pub history : q.history ≡ events ++ p.history
  pub plant : q.plant ≡ p.plant
  pub order : CameInTurn p events
  pub passed : HaveNothing q (place_after events) place

-- what happened from p to q came in its turn, which goes on from one place to another
abbrev pub GoesOn : ℕ → ℕ → Shown → Shown → Type 0
GoesOn from to p q = (first : Shown) → IsTurnOf first p from → IsTurnOf first q to

-- or it stopped on the way
abbrev pub GoesTo : {A : Type 0} → ℕ → ℕ → Shown → Shown → Result A Halt → Type 0
GoesTo from to p q (Ok done) = GoesOn from to p q
GoesTo from to p q (Err halt) = (first : Shown) → IsTurnOf first p from → IsInTurn first q

-- ---- what is told

-- of these tellings a first part was told
pub record IsPartTold (tellings : List Told) (before after : Option (List Told)) : Type 0 where
  pub part : List Told
  pub rest : List Told
  pub are : tellings ≡ rest ++ part
  pub told : after ≡ grown_by part before

-- they were told, or the observer failed and only a first part of them was
abbrev pub TellsThese : {A E : Type 0} → List Told → Option (List Told) → Option (List Told) → Result A E → Type 0
TellsThese tellings before after (Ok done) = after ≡ grown_by tellings before
TellsThese tellings before after (Err error) = IsPartTold tellings before after

-- a bus went down at this place, where it did
abbrev pub down_told : ℕ → Option ℕ → List Told
down_told b None = []
down_told b (Some place) = record { place = place; happened = what.WentDown b } ∷ []

-- what is told of a report at one place, and of the going down of its bus at another
abbrev pub report_told : ℕ → ReportParts → ℕ → Option ℕ → List Told
report_told b report place down = down_told b down ++ record { place = place; happened = what.Reported b report } ∷ []

-- where a bus goes down once its transaction was reported at this place: right behind that, where its interface failed
abbrev pub down_place : Outcome → ℕ → Option ℕ
down_place outcome.Failed place = Some (place + 1)
down_place other place = None
