-- Steps of a plant, one after another, with their replies (profile).
use Rattle.std.specs.Prelude.{◌≡◌, ℕ, ◌<◌, List, [], ◌∷◌, ◌++◌, length, reverse, Some, ⊤}
use Rattle.gearcmd.specs.FrameLists.{FrameList}
use Rattle.buslink.specs.declared.marks.Mark.{Mark}
use Rattle.buslink.specs.Attempts.{ReportParts, Spells, SpellsNone}
use Rattle.ilmachine.specs.Snapshots.{ScanStart}
use Rattle.ilmachine.specs.Scans.{Scan}
use Rattle.plantevents.specs.declared.event.Event.{Event}
use Rattle.plantevents.specs.declared.event.Event.TheVariants as event
use Rattle.plantevents.specs.Plants.{tries_of}
use Rattle.plantevents.specs.Histories.{OpenScan, scan}
use Rattle.plantevents.specs.Legal.{Allowed}
use Rattle.plant.specs.declared.refusal.CallRefusal.{CallRefusal}
use Rattle.plant.specs.declared.refusal.CallRefusal.TheVariants.{Stranger}
use Rattle.plant.specs.Matches.{IsOpenTransaction}
use Rattle.plant.specs.Refusals.{first_refusal, tick_cases, heard_cases, take_cases, hand_cases, down_cases}
use Rattle.plant.specs.Refusals.{up_cases}
use Rattle.plant.specs.Shown.{Shown, grown}
use Rattle.plantscript.specs.declared.step.Step.{Step}
use Rattle.plantscript.specs.declared.step.Step.TheVariants.{Tick, Heard, Take, Commit, Hand, Done, Down, Up}
use Rattle.plantscript.specs.declared.step.StepReply.{StepReply}
use Rattle.plantscript.specs.declared.step.StepReply.TheVariants.{Noted, Taken, Handed, Refused, Memory}

-- ---- what is refused

-- the worker has no scan open
abbrev pub HasNoScan : Shown → ℕ → Type 0
HasNoScan p w = (running : OpenScan) → w < p.plant.workers → ¬ (scan w p.history ≡ Some running)

-- the bus has no transaction open under this number of which the marks spell a report, by the attempts of the bus
abbrev pub HasNoReport : Shown → ℕ → ℕ → List Mark → Type 0
HasNoReport p b n marks =
    (transaction : FrameList) → IsOpenTransaction p b n transaction
    → SpellsNone transaction (tries_of p.plant b) marks

-- why a step is refused: what the plant's call refuses; and a scan or a report of what is not open is a stranger
abbrev pub IsRefused : Shown → Step → CallRefusal → Type 0
IsRefused p (Tick m) refusal = first_refusal (tick_cases p m) ≡ Some refusal
IsRefused p (Heard b f) refusal = first_refusal (heard_cases p b) ≡ Some refusal
IsRefused p (Take w) refusal = first_refusal (take_cases p w) ≡ Some refusal
IsRefused p (Commit w) refusal = (refusal ≡ Stranger) × HasNoScan p w
IsRefused p (Hand b) refusal = first_refusal (hand_cases p b) ≡ Some refusal
IsRefused p (Done b n marks) refusal = (refusal ≡ Stranger) × HasNoReport p b n marks.items
IsRefused p (Down b) refusal = first_refusal (down_cases p b) ≡ Some refusal
IsRefused p (Up b) refusal = first_refusal (up_cases p b) ≡ Some refusal

abbrev pub NothingIsRefused : Shown → Step → Type 0
NothingIsRefused p step = (refusal : CallRefusal) → ¬ IsRefused p step refusal

-- ---- what is accepted

-- the event of an accepted step at place n of the history: the reply tells the number and the task of a Take, and the
-- number and the transaction of a Hand; a Done has a report that the marks spell
abbrev pub IsEventOf : ℕ → Step → StepReply → Event → Type 0
IsEventOf n (Tick m) Noted e = e ≡ event.Tick m
IsEventOf n (Heard b f) Noted e = e ≡ event.Heard b f
IsEventOf n (Take w) (Taken number t) e = (number ≡ n) × ((snapshot : ScanStart) × (e ≡ event.Take w t snapshot))
IsEventOf n (Commit w) Noted e = (number : ℕ) × (result : Scan) × (e ≡ event.Commit w number result)
IsEventOf n (Hand b) (Handed number origin transaction) e = (number ≡ n) × (e ≡ event.Hand b origin transaction)
IsEventOf n (Done b number marks) Noted e =
    (report : ReportParts) × Spells report.transaction report.tries marks.items report
    × (e ≡ event.Done b number report)
IsEventOf n (Down b) Noted e = e ≡ event.Down b
IsEventOf n (Up b) Noted e = e ≡ event.Up b
IsEventOf n step reply e = ⊥

-- A step is accepted where nothing stands against it. It adds its event, which may follow the history.
pub record IsAccepted (p : Shown) (step : Step) (reply : StepReply) (q : Shown) : Type 0 where
  pub unrefused : NothingIsRefused p step
  pub e : Event
  pub of_step : IsEventOf (length p.history) step reply e
  pub allowed : Allowed p.plant p.history e
  pub becomes : q ≡ grown p e

-- ---- replies

-- a step that takes memory, which the allocator may be out of
abbrev pub TakesMemory : Step → Type 0
TakesMemory (Take w) = ⊤
TakesMemory step = ⊥

-- the reply to a step, which leads from p to q; where it is refused nothing changes
abbrev pub Answered : Shown → Step → StepReply → Shown → Type 0
Answered p step (Refused refusal) q = IsRefused p step refusal × (q ≡ p)
Answered p step Memory q = TakesMemory step × NothingIsRefused p step × (q ≡ p)
Answered p step Noted q = IsAccepted p step Noted q
Answered p step (Taken number task) q = IsAccepted p step (Taken number task) q
Answered p step (Handed number origin transaction) q = IsAccepted p step (Handed number origin transaction) q

-- these replies to these steps, one after another, lead from p to q
abbrev pub Run : Shown → List Step → List StepReply → Shown → Type 0
Run p [] [] q = q ≡ p
Run p (step ∷ steps) (reply ∷ replies) q = (between : Shown) × Answered p step reply between × Run between steps replies q
Run p steps replies q = ⊥

-- ---- the events of a run

-- these are the events of the steps that were accepted, in order, after the history h
abbrev pub AreEventsOf : List Event → List Step → List StepReply → List Event → Type 0
AreEventsOf h [] [] events = events ≡ []
AreEventsOf h (step ∷ steps) (Refused refusal ∷ replies) events = AreEventsOf h steps replies events
AreEventsOf h (step ∷ steps) (Memory ∷ replies) events = AreEventsOf h steps replies events
AreEventsOf h (step ∷ steps) (reply ∷ replies) (e ∷ events) =
    IsEventOf (length h) step reply e × AreEventsOf (e ∷ h) steps replies events
AreEventsOf h steps replies events = ⊥

-- The history from p to q is that of the steps that were accepted. It is kept from its newest event.
pub record IsHistoryOf (p : Shown) (steps : List Step) (replies : List StepReply) (q : Shown) : Type 0 where
  pub events : List Event
  pub history : q.history ≡ reverse events ++ p.history
  pub of_steps : AreEventsOf p.history steps replies events
