-- What is known of a transaction that was sent next, for the history and its bus.
use Rattle.std.proofs.Common.{◌≡◌, ◌≢◌, ℕ, ◌<◌, length, refl, sym, ap, ◌∙◌, subst}
use Rattle.std.specs.Prelude.{MatchResult, None, Result, Ok, Err, ⊤}
use Rattle.buslink.specs.BusLog.{BusLog, with_spare}
use Rattle.buslink.specs.Performing.{after_report}
use Rattle.gearcmd.specs.FrameLists.{FrameList}
use Rattle.buslink.specs.Attempts.{ReportParts, IsReportParts}
use Rattle.buslink.specs.declared.marks.Outcome.TheVariants as outcome
use Rattle.plantevents.specs.declared.event.Event.{Event}
use Rattle.plantevents.specs.declared.event.Event.TheVariants.{Hand, Done, Down}
use Rattle.plantevents.specs.declared.event.Origin.{Origin}
use Rattle.plantevents.specs.Legal.{IsHand}
use Rattle.plantevents.specs.Plants.{tries_of}
use Rattle.plant.specs.Refusals.{first_refusal, hand_cases}
use Rattle.plant.specs.Shown.{Shown, grown}
use Rattle.plantdriving.specs.declared.halt.Halt.{Halt}
use Rattle.plantdriving.specs.declared.halt.Halt.TheVariants.{Refused, Memory, Unwritten}
use Rattle.plantdriving.specs.Driven.{HasSent, IsUnsent, SendsNext}
use Rattle.plantdriving.specs.TurnSteps.{IsBusStep}
use Rattle.plantdriving.proofs.BusSteps.{step_reported}
use Rattle.plantdriving.proofs.Handed.{after_room, longer_by_reports, step_idle}

-- a copy is what was copied
pub copied : {X E : Type 0} → (r : Result X E) (x t : X) → r ≡ Ok x
    → MatchResult r (λ copy. copy ≡ t) (λ e. ¬ ⊤) → x ≡ t
copied (Ok y) x t is made = let same : y ≡ x = cc in sym same ∙ made
copied (Err e) x t is made = absurd (cc)

-- what was handed out, sent and reported was sent, and `noted` is the report once more
module _ (b n : ℕ) (origin : Origin) (t : FrameList) (report noted : ReportParts) (p r q : Shown)
    (log roomy after : BusLog) (handed : r ≡ grown p (Hand b origin t)) (number : n ≡ length p.history)
    (same : report.transaction ≡ t) (copy : noted ≡ report) where
  abbrev base : Shown
  base = grown p (Hand b origin report.transaction)

  base_is : r ≡ base
  base_is = handed ∙ ap (λ (x : FrameList). grown p (Hand b origin x)) (sym same)

  done_is : grown r (Done b n noted) ≡ grown base (Done b (length p.history) report)
  done_is =
      ap (λ (x : Shown). grown x (Done b n noted)) base_is
      ∙ (ap (λ (k : ℕ). grown base (Done b k noted)) number
      ∙ ap (λ (x : ReportParts). grown base (Done b (length p.history) x)) copy)

  outcome_is : noted.outcome ≡ report.outcome
  outcome_is = ap (λ (x : ReportParts). x.outcome) copy

  pub has_sent : first_refusal (hand_cases p b) ≡ None → IsHand p.plant p.history b origin t → IsReportParts report
      → report.tries ≡ tries_of p.plant b
      → (noted.outcome ≢ outcome.Failed → q ≡ grown r (Done b n noted))
      → (noted.outcome ≡ outcome.Failed → q ≡ grown (grown r (Done b n noted)) (Down b))
      → roomy ≡ with_spare roomy.spare log → after ≡ after_report report after.spare roomy → HasSent p b log q after
  has_sent accepted next reported tries fine failed room sent = record {
    origin = origin;
    report = report;
    accepted = accepted;
    next = subst (λ (x : FrameList). IsHand p.plant p.history b origin x) (sym same) next;
    reported = reported;
    tries = tries;
    fine = λ other. fine (λ is. other (sym outcome_is ∙ is)) ∙ done_is;
    failed = λ is. failed (outcome_is ∙ is) ∙ ap (λ (x : Shown). grown x (Down b)) done_is;
    line = after_room report after.spare log roomy after room sent;
  }

-- as many attempts as its bus has, before it was handed out and after
pub tries_made : (p : Shown) (b made asked : ℕ) → made ≡ asked → asked ≡ tries_of p.plant b → made ≡ tries_of p.plant b
tries_made p b made asked is told = is ∙ told

pub tries_after : (p handed : Shown) (e : Event) (b made asked : ℕ) → handed ≡ grown p e → made ≡ asked
    → asked ≡ tries_of p.plant b → made ≡ tries_of handed.plant b
tries_after p handed e b made asked grew is told = is ∙ told ∙ ap (λ (x : Shown). tries_of x.plant b) (sym grew)

pub step_of_sent : (b : ℕ) (p q : Shown) (log after : BusLog) → HasSent p b log q after → IsBusStep b p q log after
step_of_sent b p q log after is =
    step_reported b (length p.history) is.origin is.report.transaction is.report p
    (grown p (Hand b is.origin is.report.transaction)) q log after after.spare refl is.fine is.failed is.line

pub longer_of_sent : (b : ℕ) (p q : Shown) (log after : BusLog) → HasSent p b log q after
    → length p.history < length q.history
longer_of_sent b p q log after is =
    longer_by_reports b (length p.history) is.origin is.report.transaction is.report p
    (grown p (Hand b is.origin is.report.transaction)) q refl is.fine is.failed

pub step_of_unsent : (b : ℕ) (p q : Shown) (log after : BusLog) → IsUnsent p log q after → IsBusStep b p q log after
step_of_unsent b p q log after is = step_idle b p q log after is.plant is.line

pub step_of_sends : {A : Type 0} → (b : ℕ) (p q : Shown) (log after : BusLog) (result : Result A Halt)
    → SendsNext p b log q after result → IsBusStep b p q log after
step_of_sends b p q log after (Ok done) is = step_of_sent b p q log after is
step_of_sends b p q log after (Err (Unwritten error)) is = step_of_sent b p q log after is
step_of_sends b p q log after (Err Memory) is = step_of_unsent b p q log after is.1
step_of_sends b p q log after (Err (Refused refusal)) is = step_of_unsent b p q log after is.1
