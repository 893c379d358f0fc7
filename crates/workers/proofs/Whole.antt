-- What a run did, and one that goes on, from what the run over new cells says.
use Rattle.std.proofs.Common.{◌≡◌, ◌∙◌, ℕ, List, ◌++◌, ap, length, map, subst, sym, true}
use Rattle.std.proofs.lemmas.List.{length-map}
use Rattle.ilcompile.specs.Loaded.{Loaded}
use Rattle.buslink.specs.BusLog.{BusLog}
use Rattle.buslink.specs.ClockLog.{ClockLog}
use Rattle.plantevents.specs.Histories.{given_in}
use Rattle.plantevents.specs.Legal.{AreLegal}
use Rattle.plantevents.specs.Plants.{Plant}
use Rattle.plant.specs.Shown.{IsLimit, IsRoomy, Shown, is_full, opened}
use Rattle.plantturns.specs.Tied.{IsFront}
use Rattle.workers.specs.declared.closed.ClosedParts.{ClosedParts}
use Rattle.workers.specs.declared.ended.Ended.TheVariants.{Asked, Limit}
use Rattle.workers.specs.Closings.{IsClosed, IsLeft}
use Rattle.workers.specs.Runs.{GoesOn, HasEndedQuietly, HasRun}
use Rattle.workers.specs.Starts.{AreCounts}
use Rattle.workers.proofs.Earlier.{buses_before, clock_before}
use Rattle.plantturns.specs.Each.{Each}
use Rattle.plantturns.specs.Links.{IsLinked, IsNoLess, log_of}
use Rattle.plantturns.specs.Open.{HasNothingOpen}
use Rattle.workers.proofs.Left.{all_made, of_made}
use Rattle.workers.proofs.GoneOn.{closed_again, given_now, grew, linked_now, moments_now, quietly_since}

module _ {B C : Type 0} (bus_log : B → BusLog) (clock_log : C → ClockLog) (start : Shown) (left : ClosedParts B C)
    (full : left.ended ≡ Limit → is_full left.plant ≡ true) (kept : left.plant.limit ≡ start.limit) where
  pub has_run : (setup : Loaded) (workers limit : ℕ) (buses : List B) (clock : C) → start ≡ opened setup workers limit
      → IsClosed start.plant (map bus_log buses) (clock_log clock) bus_log clock_log left
      → (left.ended ≡ Asked → HasEndedQuietly (map bus_log buses) (clock_log clock) bus_log clock_log left)
      → length left.buses.items ≡ length buses → AreCounts setup workers (length buses) → IsLimit limit
      → IsRoomy setup.plan.buses limit
      → HasRun setup workers limit buses clock bus_log clock_log left
  has_run setup workers limit buses clock new closed ended count counts limited roomy = record {
    closed =
        subst (λ (p : Plant). IsClosed p (map bus_log buses) (clock_log clock) bus_log clock_log left)
        (ap (λ (p : Shown). p.plant) new) closed;
    ended = ended;
    full = full;
    kept = kept ∙ ap (λ (p : Shown). p.limit) new;
    count = count;
    counts = counts;
    limited = limited;
    roomy = roomy;
  }

  -- it began with the plant of what was left, under another limit
  pub goes_on : (limit : ℕ) (old : ClosedParts B C) → IsLeft bus_log clock_log old
      → start ≡ record old.plant { limit = limit }
      → IsClosed start.plant (buses_before 0 start.history (map bus_log old.buses.items))
      (clock_before start.history (clock_log old.clock)) bus_log clock_log left
      → (left.ended ≡ Asked → HasEndedQuietly (buses_before 0 start.history (map bus_log old.buses.items))
      (clock_before start.history (clock_log old.clock)) bus_log clock_log left)
      → IsFront start.history left.plant.history → length left.buses.items ≡ length old.buses.items
      → GoesOn limit bus_log clock_log old left
  goes_on limit old was is closed ended front count =
      let same = ap (λ (p : Shown). p.history) is in
      let plant = ap (λ (p : Shown). p.plant) is in
      record {
        since = λ p logs first then.
            closed_again bus_log clock_log old p logs first then start left same closed front count plant;
        ended = λ asked.
            quietly_since start.history (map bus_log old.buses.items) (clock_log old.clock) bus_log clock_log left
            (ended asked);
        full = full;
        later = front.later;
        history = grew bus_log clock_log old was.p was.logs was.first was.closed start left same closed front count;
        buses =
            linked_now bus_log clock_log old was.p was.logs was.first was.closed start left same closed front count;
        clock =
            given_now bus_log clock_log old was.p was.logs was.first was.closed start left same closed front count;
        moments =
            moments_now bus_log clock_log old was.p was.logs was.first was.closed start left same closed front count;
        kept = kept ∙ ap (λ (p : Shown). p.limit) is;
        count = count;
      }

-- ---- other buses with the same logs

same_logs : {B D : Type 0} (P : ℕ → BusLog → Type 0) (bus_log : B → BusLog) (other_log : D → BusLog) (lines : List B)
    (others : List D) → map other_log others ≡ map bus_log lines → Each (λ k line. P k (bus_log line)) 0 lines
    → Each (λ k line. P k (other_log line)) 0 others
same_logs P bus_log other_log lines others same all =
    of_made P other_log 0 others (subst (λ (logs : List BusLog). Each P 0 logs) (sym same) (all_made P bus_log 0 lines all))

same_count : {B D : Type 0} (bus_log : B → BusLog) (other_log : D → BusLog) (lines : List B) (others : List D)
    → map other_log others ≡ map bus_log lines → length others ≡ length lines
same_count bus_log other_log lines others same =
    sym (length-map others other_log) ∙ (ap length same ∙ length-map lines bus_log)

pub left_with : {B C D : Type 0} (bus_log : B → BusLog) (other_log : D → BusLog) (clock_log : C → ClockLog)
    (old : ClosedParts B C) (new : ClosedParts D C) → new.plant ≡ old.plant → new.clock ≡ old.clock
    → map other_log new.buses.items ≡ map bus_log old.buses.items → IsLeft bus_log clock_log old
    → IsLeft other_log clock_log new
left_with bus_log other_log clock_log old new plant clock same was =
    let closed = was.closed in
    record {
      p = was.p;
      logs = was.logs;
      first = was.first;
      closed = record {
        plant = ap (λ (p : Shown). p.plant) plant ∙ closed.plant;
        legal = subst (λ (p : Shown). AreLegal was.p p.history) (sym plant) closed.legal;
        idle = subst HasNothingOpen (sym plant) closed.idle;
        buses =
            same_logs (λ b log. IsLinked (log_of was.logs b) b new.plant.history log) bus_log other_log old.buses.items
            new.buses.items same
            (subst (λ (p : Shown). Each (λ b line. IsLinked (log_of was.logs b) b p.history (bus_log line)) 0
            old.buses.items) (sym plant) closed.buses);
        hears =
            same_logs (λ b log. IsNoLess (log_of was.logs b).hears log.hears) bus_log other_log old.buses.items
            new.buses.items same closed.hears;
        clock =
            ap (λ c. (clock_log c).given) clock
            ∙ (closed.clock ∙ ap (λ (p : Shown). was.first.given ++ given_in p.history) (sym plant));
        moments = ap (λ c. (clock_log c).moments) clock ∙ closed.moments;
        asks = subst (λ c. IsNoLess was.first.asks (clock_log c).asks) (sym clock) closed.asks;
      };
      workers = was.workers;
      count = same_count bus_log other_log old.buses.items new.buses.items same ∙ was.count;
    }
