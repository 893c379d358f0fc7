-- What a run left since the logs of before the first one, and what a run leaves that goes on from it.
use Rattle.std.proofs.Common.{◌≡◌, ◌≢◌, ◌∙◌, ⊎_elim, ℕ, ◌+◌, ◌<◌, ◌≤◌, List, map, refl, sym}
use Rattle.std.proofs.lemmas.Bool.{cases_lt}
use Rattle.limits.specs.Limits.{most_total}
use Rattle.ilcompile.specs.Loaded.{Loaded}
use Rattle.buslink.specs.BusLog.{BusLog}
use Rattle.buslink.specs.ClockLog.{ClockLog}
use Rattle.plantevents.specs.Plants.{Plant}
use Rattle.plant.specs.Shown.{IsLimit, plant_of, used}
use Rattle.workers.specs.declared.closed.ClosedParts.{ClosedParts}
use Rattle.workers.specs.declared.ended.Ended.{Ended}
use Rattle.workers.specs.declared.ended.Ended.TheVariants.{Asked, Limit, NoMemory, NoThread}
use Rattle.workers.specs.Runs.{GoesOn, HasRun}
use Rattle.workers.specs.Starts.{IsMore}
use Rattle.workers.proofs.FromFirst.{quietly_from_first}
use Rattle.plantlive.specs.declared.living.Lived.{Lived}
use Rattle.plantlive.specs.Lives.{HasLived, IsEnd}
use Rattle.plantlive.specs.LivesSteps.{IsSince}

module _ {B C : Type 0} (bus_log : B → BusLog) (clock_log : C → ClockLog) where
  pub since_run : (setup : Loaded) (workers limit : ℕ) (buses : List B) (clock : C) (left : ClosedParts B C)
      → HasRun setup workers limit buses clock bus_log clock_log left
      → IsSince (plant_of setup workers) (map bus_log buses) (clock_log clock) bus_log clock_log left
  since_run setup workers limit buses clock left run = record {
    closed = run.closed;
    ended = run.ended;
    full = run.full;
    count = run.count ∙ run.counts.1;
  }

  pub since_on : (p : Plant) (logs : List BusLog) (first : ClockLog) (limit : ℕ) (old new : ClosedParts B C)
      → GoesOn limit bus_log clock_log old new → IsSince p logs first bus_log clock_log old
      → IsSince p logs first bus_log clock_log new
  since_on p logs first limit old new on was =
      let closed = on.since p logs first was.closed in
      record {
        closed = closed;
        ended = λ asked.
            quietly_from_first p logs first bus_log clock_log old new was.count closed.plant was.closed
            (on.ended asked);
        full = on.full;
        count = on.count ∙ was.count;
      }

-- ---- why no other run follows

-- the clock's end is that of the last run
asked_at : (past more : ℕ) (left ended : Ended) → IsEnd past more left ended → ended ≡ Asked → left ≡ Asked
asked_at past more Asked ended why is = refl
asked_at past more Limit ended why is =
    ⊎_elim (λ (over : (ended ≡ Limit) × (most_total < past + more)). absurd (cc (over.0, is)))
    (λ (refused : (ended ≡ NoMemory) × (past + more ≤ most_total)). absurd (cc (refused.0, is))) why
asked_at past more NoMemory ended why is = absurd (cc (why, is))
asked_at past more NoThread ended why is = absurd (cc (why, is))

-- one that is not full is followed by no other
pub as_it_ended : (past more : ℕ) (ended : Ended) → ended ≢ Limit → IsEnd past more ended ended
as_it_ended past more Asked other = refl
as_it_ended past more Limit other = absurd (other refl)
as_it_ended past more NoMemory other = refl
as_it_ended past more NoThread other = refl

-- where so many events more are refused they are too many
pub too_many : (past more : ℕ) → IsLimit more → ¬ IsMore past more → most_total < past + more
too_many past more limit refused =
    ⊎_elim (λ (above : most_total < past + more). above)
    (λ (within : past + more ≤ most_total). absurd (refused (limit.0, limit.1, within)))
    (cases_lt most_total (past + more))

-- ---- all runs

pub has_lived : {B C : Type 0} (bus_log : B → BusLog) (clock_log : C → ClockLog) (setup : Loaded) (workers limit : ℕ)
    (buses : List B) (clock : C) (first : ClosedParts B C) (lived : Lived B C)
    → HasRun setup workers limit buses clock bus_log clock_log first
    → IsSince (plant_of setup workers) (map bus_log buses) (clock_log clock) bus_log clock_log lived.left
    → IsEnd (used lived.left.plant) limit lived.left.ended lived.ended
    → HasLived setup workers limit buses clock bus_log clock_log lived
has_lived bus_log clock_log setup workers limit buses clock first lived run since why = record {
  closed = since.closed;
  ended = λ asked.
      since.ended (asked_at (used lived.left.plant) limit lived.left.ended lived.ended why asked);
  why = why;
  full = since.full;
  count = since.count ∙ sym run.counts.1;
  counts = run.counts;
  limited = run.limited;
  roomy = run.roomy;
}
