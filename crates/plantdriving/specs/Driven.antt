-- What driving a plant on its buses does, and why it cannot go on (profile).
use Rattle.std.specs.Prelude.{◌≡◌, ◌≢◌, ◌⊎◌, ℕ, ◌<◌, ◌≤◌, List, [], ◌∷◌, ◌++◌, length, Result, Ok, Err, Some, None, ⊤}
use Rattle.buslink.specs.BusLog.{BusLog, IsSameBus, with_spare}
use Rattle.buslink.specs.Performing.{after_report}
use Rattle.buslink.specs.declared.marks.Outcome.TheVariants as outcome
use Rattle.buslink.specs.Attempts.{ReportParts, IsReportParts}
use Rattle.plantevents.specs.declared.event.Event.{Event}
use Rattle.plantevents.specs.declared.event.Event.TheVariants.{Heard, Hand, Done, Down}
use Rattle.plantevents.specs.declared.event.Origin.{Origin}
use Rattle.plantevents.specs.Histories.{given_in}
use Rattle.plantevents.specs.Legal.{IsHand}
use Rattle.plantevents.specs.Plants.{tries_of}
use Rattle.plant.specs.declared.refusal.CallRefusal.TheVariants.{Full}
use Rattle.plant.specs.Refusals.{first_refusal, take_cases, hand_cases, heard_cases}
use Rattle.plant.specs.Shown.{Shown, grown}
use Rattle.plantdriving.specs.declared.halt.Halt.{Halt}
use Rattle.plantdriving.specs.declared.halt.Halt.TheVariants.{Refused, Memory, Unwritten}
use Rattle.plantdriving.specs.Links.{AreLinked, HasHeard, log_of}
use Rattle.plantdriving.specs.Open.{HasNothingOpen}
use Rattle.plantdriving.specs.Order.{IsInTurn}
use Rattle.plantdriving.specs.Quiet.{HasNoFrame}

-- ---- what was done

-- q is the plant p after more events, and they are of scans and buses: each bus did what they say, no moment came, and
-- nothing came on a bus
pub record IsDriven (p q : Shown) (before after : List BusLog) : Type 0 where
  pub later : List Event
  pub history : q.history ≡ later ++ p.history
  pub plant : q.plant ≡ p.plant
  pub limit : q.limit ≡ p.limit
  pub given : given_in q.history ≡ given_in p.history
  pub idle : HasNothingOpen p → HasNothingOpen q
  pub count : length after ≡ length before
  pub same : (b : ℕ) → IsSameBus (log_of before b) (log_of after b)
  pub linked : (firsts : List BusLog) → AreLinked firsts p.history before → AreLinked firsts q.history after
  pub hears : (b : ℕ) → HasHeard (log_of before b) (log_of after b)

-- ---- what is heard first

-- these events, the newest first, are frames and Downs of buses in the order of their numbers, none above b
abbrev pub AreHeardUpTo : ℕ → List Event → Type 0
AreHeardUpTo b [] = ⊤
AreHeardUpTo b (Heard c frame ∷ older) = (c ≤ b) × AreHeardUpTo c older
AreHeardUpTo b (Down c ∷ older) = (c ≤ b) × AreHeardUpTo c older
AreHeardUpTo b (e ∷ older) = ⊥

-- each bus, in the order of their numbers, heard all that had come, and nothing else happened
pub record IsHeard (p q : Shown) (before after : List BusLog) : Type 0 where
  pub driven : IsDriven p q before after
  pub events : List Event
  pub history : q.history ≡ events ++ p.history
  pub order : AreHeardUpTo p.plant.plan.buses events
  pub silent : (b : ℕ) → b < p.plant.plan.buses → HasNoFrame q b (log_of before b) (log_of after b)

-- that is what was done first; and then scans were made and buses sent and heard, in their turns
pub record IsHeardFirst (p q : Shown) (before after : List BusLog) : Type 0 where
  pub between : Shown
  pub logs : List BusLog
  pub heard : IsHeard p between before logs
  pub rest : IsDriven between q logs after
  pub turns : IsInTurn between q

-- However far it got: first buses heard, in the order of their numbers; then scans were made and buses sent and heard,
-- in their turns.
pub record IsInOrder (p q : Shown) : Type 0 where
  pub between : Shown
  pub events : List Event
  pub history : between.history ≡ events ++ p.history
  pub heard : AreHeardUpTo p.plant.plan.buses events
  pub plant : between.plant ≡ p.plant
  pub turns : IsInTurn between q

-- ---- why it cannot go on

-- A turn is refused, since the history is full: the next scan, the next transaction of a bus, or its next frame.
abbrev pub IsStuck : Shown → Type 0
IsStuck p =
    (first_refusal (take_cases p 0) ≡ Some Full)
    ⊎ ((b : ℕ) × ((first_refusal (hand_cases p b) ≡ Some Full) ⊎ (first_refusal (heard_cases p b) ≡ Some Full)))

-- a turn is refused; or the allocator is out of memory, or an observer failed, which may be at any time
abbrev pub CannotGoOn : Shown → Halt → Type 0
CannotGoOn p (Refused refusal) = (refusal ≡ Full) × IsStuck p
CannotGoOn p Memory = ⊤
CannotGoOn p (Unwritten error) = ⊤

-- ---- what is sent next

-- The transaction that is next at bus b was handed out, sent and reported, and where its interface failed the bus went
-- down. The interface sent the attempts of the report, and nothing else became of it.
pub record HasSent (p : Shown) (b : ℕ) (log : BusLog) (q : Shown) (after : BusLog) : Type 0 where
  pub origin : Origin
  pub report : ReportParts
  pub accepted : first_refusal (hand_cases p b) ≡ None
  pub next : IsHand p.plant p.history b origin report.transaction
  pub reported : IsReportParts report
  pub tries : report.tries ≡ tries_of p.plant b
  pub fine : report.outcome ≢ outcome.Failed
      → q ≡ grown (grown p (Hand b origin report.transaction)) (Done b (length p.history) report)
  pub failed : report.outcome ≡ outcome.Failed
      → q ≡ grown (grown (grown p (Hand b origin report.transaction)) (Done b (length p.history) report)) (Down b)
  pub line : after ≡ after_report report after.spare log

-- the plant is unchanged, and the interface but for its spare places
pub record IsUnsent (p : Shown) (log : BusLog) (q : Shown) (after : BusLog) : Type 0 where
  pub plant : q ≡ p
  pub line : after ≡ with_spare after.spare log

-- It was sent exactly where the plant refuses no Hand, unless the interface had no room for its frames. An observer that
-- failed is told last.
abbrev pub SendsNext : {A : Type 0} → Shown → ℕ → BusLog → Shown → BusLog → Result A Halt → Type 0
SendsNext p b log q after (Ok done) = HasSent p b log q after
SendsNext p b log q after (Err (Unwritten error)) = HasSent p b log q after
SendsNext p b log q after (Err Memory) = (first_refusal (hand_cases p b) ≡ None) × IsUnsent p log q after
SendsNext p b log q after (Err (Refused refusal)) =
    (first_refusal (hand_cases p b) ≡ Some refusal) × IsUnsent p log q after
