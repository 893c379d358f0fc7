-- What the Share of a bus has receipts for after a transaction, and a turn that the plant refused.
use Rattle.std.proofs.Common.{◌≡◌, ◌≢◌, ⊎_elim, inl, inr, ℕ, false, ◌∷◌, List, Option, None, Some, Ok, Err, sym, ap, ◌∙◌, subst}
use Rattle.std.specs.Prelude.{Result}
use Rattle.gearcmd.specs.FrameLists.{FrameList}
use Rattle.buslink.specs.declared.marks.Outcome.TheVariants as outcome
use Rattle.buslink.specs.Attempts.{ReportParts}
use Rattle.buslink.specs.BusLog.{BusLog}
use Rattle.buslink.specs.Performing.{after_report}
use Rattle.plantevents.specs.declared.event.Event.TheVariants.{Hand, Done, Down}
use Rattle.plantevents.specs.declared.event.Origin.{Origin}
use Rattle.plantevents.specs.Parts.{Placed, placed, shown_down}
use Rattle.plantlock.specs.CallRefusal.TheVariants as refusal
use Rattle.plantlock.specs.Shown.{Shown}
use Rattle.plantdriving.specs.declared.halt.Halt.{Halt}
use Rattle.plantdriving.specs.declared.halt.Halt.TheVariants.{Refused, Memory, Unwritten}
use Rattle.plantdriving.proofs.Handed.{has_failed}
use Rattle.plantlock.specs.Receipts.{ShareParts, IsNoted, whole}
use Rattle.plantturns.specs.declared.turn.Turn.{Turn}
use Rattle.plantturns.specs.declared.turn.Turn.TheVariants as turns
use Rattle.plantturns.specs.Outcomes.{HasSentOnce, SendsTurn, turn_where_refused}
use Rattle.plantturns.specs.TurnSteps.{IsDownWhereFailed, IsTold, SendsOnce, turn_after}
use Rattle.plantturns.proofs.Rounds.{noted_whole}

-- the receipts of a transaction that was reported
pub reported : (bus number place : ℕ) (origin : Origin) (transaction : FrameList) (report : ReportParts)
    (s handed noted : ShareParts) → IsNoted number (Hand bus origin transaction) s handed
    → IsNoted place (Done bus number report) handed noted → report.transaction ≡ transaction
    → whole noted ≡ placed place (Done bus number report) ∷ placed number (Hand bus origin report.transaction) ∷ whole s
reported bus number place origin transaction report s handed noted one two same =
    noted_whole place (Done bus number report) handed noted two
    ∙ ap (λ (older : List Placed). placed place (Done bus number report) ∷ older)
    (noted_whole number (Hand bus origin transaction) s handed one
    ∙ ap (λ t. placed number (Hand bus origin t) ∷ whole s) (sym same))

pub has_sent : (bus number place : ℕ) (origin : Origin) (transaction : FrameList) (report : ReportParts)
    (s handed noted t : ShareParts) (down : Option ℕ) (log after : BusLog)
    → shown_down (whole s) ≡ false → IsNoted number (Hand bus origin transaction) s handed
    → IsNoted place (Done bus number report) handed noted
    → report.transaction ≡ transaction → IsDownWhereFailed bus report.outcome down noted t
    → after ≡ after_report report after.spare log → HasSentOnce bus s t log after report
has_sent bus number place origin transaction report s handed noted t down log after up one two same is line =
    let both = reported bus number place origin transaction report s handed noted one two same in
    record {
      up = up;
      number = number;
      origin = origin;
      place = place;
      fine = λ fine. ap whole (is.fine fine).1 ∙ both;
      failed = λ failed.
          let gone = (is.failed failed).2 in (
            gone.0,
            noted_whole gone.0 (Down bus) noted t gone.1
                ∙ ap (λ (older : List Placed). placed gone.0 (Down bus) ∷ older) both,
          );
      line = line;
    }

-- the bus went down exactly where the transaction failed
pub told_sent : (start : Shown) (bus : ℕ) (s noted t : ShareParts) (log after : BusLog) (report : ReportParts)
    (down : Option ℕ) (result : Result Turn Halt) → HasSentOnce bus s t log after report
    → IsDownWhereFailed bus report.outcome down noted t → IsTold (turn_after down) result
    → SendsOnce start bus s t log after result
told_sent start bus s noted t log after report None (Ok turn) sent is told =
    subst (λ (x : Turn). SendsOnce start bus s t log after (Ok x)) (sym told) (
      report,
      sent,
      λ failed. let place = (is.failed failed).1 in absurd (cc),
    )
told_sent start bus s noted t log after report (Some n) (Ok turn) sent is told =
    subst (λ (x : Turn). SendsOnce start bus s t log after (Ok x)) (sym told) (
      report,
      sent,
      ⊎_elim (λ (failed : report.outcome ≡ outcome.Failed). failed)
          (λ (fine : report.outcome ≢ outcome.Failed). let place = (is.fine fine).0 in absurd (cc))
          (has_failed report.outcome),
    )
told_sent start bus s noted t log after report down (Err (Unwritten error)) sent is told = (report, sent)
told_sent start bus s noted t log after report down (Err Memory) sent is told = absurd told
told_sent start bus s noted t log after report down (Err (Refused r)) sent is told = absurd told

-- ---- a turn from what was done

pub turn_sent : (start : Shown) (bus : ℕ) (s t : ShareParts) (log after : BusLog) (turn : Turn)
    → SendsOnce start bus s t log after (Ok turn) → SendsTurn start bus s t log after (Ok turn)
turn_sent start bus s t log after turns.Busy sent = sent
turn_sent start bus s t log after turns.Idle sent = absurd sent
turn_sent start bus s t log after turns.Down sent = inr sent

pub turn_refused : (start : Shown) (bus : ℕ) (s t : ShareParts) (log after : BusLog) (halt : Halt)
    → SendsOnce start bus s t log after (Err halt) → SendsTurn start bus s t log after (turn_where_refused halt)
turn_refused start bus s t log after (Unwritten error) sent = sent
turn_refused start bus s t log after Memory sent = sent
turn_refused start bus s t log after (Refused refusal.NothingReady) sent = sent
turn_refused start bus s t log after (Refused refusal.BusDown) sent = inl sent
turn_refused start bus s t log after (Refused refusal.ClockBack) sent = (sent.0, (λ e. absurd (cc)), (λ e. absurd (cc)), sent.1)
turn_refused start bus s t log after (Refused refusal.Stranger) sent = (sent.0, (λ e. absurd (cc)), (λ e. absurd (cc)), sent.1)
turn_refused start bus s t log after (Refused refusal.Busy) sent = (sent.0, (λ e. absurd (cc)), (λ e. absurd (cc)), sent.1)
turn_refused start bus s t log after (Refused refusal.Full) sent = (sent.0, (λ e. absurd (cc)), (λ e. absurd (cc)), sent.1)
