-- How many transactions a turn hands out, and how often it asks to hear.
use Rattle.std.proofs.Common.{◌≡◌, ◌≢◌, ◌⊎◌, ⊎_elim, inl, inr, ℕ, ◌+◌, ◌-◌, ◌^◌, ◌<◌, true, false, Ok, Err, refl, sym, ap}
use Rattle.std.proofs.Common.{◌∙◌, subst, arith}
use Rattle.std.specs.Prelude.{Result}
use Rattle.buslink.specs.declared.marks.Outcome.TheVariants as outcome
use Rattle.buslink.specs.Attempts.{ReportParts}
use Rattle.buslink.specs.BusLog.{BusLog}
use Rattle.plantevents.specs.declared.event.Event.TheVariants.{Up}
use Rattle.plantevents.specs.Parts.{shown_down, shown_downs}
use Rattle.plantlock.specs.Shown.{Shown}
use Rattle.plantlock.specs.Receipts.{ShareParts, whole}
use Rattle.plantdriving.specs.declared.halt.Halt.{Halt}
use Rattle.plantdriving.specs.declared.halt.Halt.TheVariants.{Refused, Memory, Unwritten}
use Rattle.plantdriving.specs.Links.{HasGrown, HasHeard, IsAsked}
use Rattle.plantdriving.proofs.Handed.{has_failed}
use Rattle.plantdriving.proofs.Linked.{heard_then}
use Rattle.plantturns.specs.declared.turn.Turn.{Turn}
use Rattle.plantturns.specs.declared.turn.Turn.TheVariants as turns
use Rattle.plantturns.specs.Handouts.{AreFollowed, HasHandedNone, shown_handouts}
use Rattle.plantturns.specs.Outcomes.{ComesUp, HasSentOnce, IsAskedAlone, IsUnsent, IsUpAgain, SendsTurn}
use Rattle.plantturns.proofs.Rounds.{noted_whole}

-- ---- one after another

kept_most : (first log : BusLog) → HasHeard first log → first.hears ≡ 2 ^ 64 - 1 → log.hears ≡ 2 ^ 64 - 1
kept_most first log (inl same) most = same ∙ most
kept_most first log (inr asked) most =
    ⊎_elim (λ (more : first.hears < log.hears). let within = asked.0 in absurd (omega (arith, more, most, within)))
    (λ (is : log.hears ≡ 2 ^ 64 - 1). is) asked.1

pub followed_then : (m n : ℕ) (s t u : ShareParts) (log between after : BusLog) → AreFollowed m s t log between
    → AreFollowed n t u between after → AreFollowed (m + n) s u log after
followed_then m n s t u log between after one two = record {
  hears = heard_then log between after one.hears two.hears;
  few = ⊎_elim (λ (most : between.hears ≡ 2 ^ 64 - 1). inl (kept_most between after two.hears most))
      (λ few. ⊎_elim (λ (most : after.hears ≡ 2 ^ 64 - 1). inl most) (λ fewer. inr (omega (arith, few, fewer))) two.few)
      one.few;
}

pub no_more : (m : ℕ) (s t : ShareParts) (log after : BusLog) → AreFollowed 0 s t log after → AreFollowed m s t log after
no_more m s t log after is = record {
  hears = is.hears;
  few = ⊎_elim (λ (most : after.hears ≡ 2 ^ 64 - 1). inl most) (λ few. inr (omega (arith, few))) is.few;
}

-- nothing happened
pub nothing_followed : (s : ShareParts) (log : BusLog) → AreFollowed 0 s s log log
nothing_followed s log = record { hears = inl refl; few = inr (omega arith) }

pub none_followed : (s t : ShareParts) (log after : BusLog) → HasHandedNone s t log after → AreFollowed 0 s t log after
none_followed s t log after is = record {
  hears = is.hears;
  few =
      let same = is.same in
      let downs = is.downs in
      ⊎_elim (λ (silent : after.hears ≡ log.hears). inr (omega (arith, same, downs, silent)))
      (λ (asked : IsAsked log after).
      ⊎_elim (λ (more : log.hears < after.hears). inr (omega (arith, same, downs, more)))
      (λ (most : after.hears ≡ 2 ^ 64 - 1). inl most) asked.1) is.hears;
}

-- a transaction was sent, and then the bus was asked
pub sent_and_asked : (s t u : ShareParts) (log between after : BusLog) → AreFollowed 1 s t log between
    → HasHandedNone t u between after → HasGrown between.hears after.hears → AreFollowed 0 s u log after
sent_and_asked s t u log between after one none grown = record {
  hears = heard_then log between after one.hears none.hears;
  few =
      let same = none.same in
      let downs = none.downs in
      ⊎_elim (λ (most : between.hears ≡ 2 ^ 64 - 1). inl (kept_most between after none.hears most))
      (λ few. ⊎_elim (λ (more : between.hears < after.hears). inr (omega (arith, few, same, downs, more)))
      (λ (most : after.hears ≡ 2 ^ 64 - 1). inl most) grown.1) one.few;
}

-- ---- what a turn sends

-- the same part
same_part : (s t : ShareParts) (log after : BusLog) → t ≡ s → after.hears ≡ log.hears → AreFollowed 0 s t log after
same_part s t log after same hears =
    subst (λ (x : ShareParts). AreFollowed 0 s x log after) (sym same)
    (record { hears = inl hears; few = inr (omega (arith, hears)) })

unsent : (s t : ShareParts) (log after : BusLog) → IsUnsent s t log after → AreFollowed 0 s t log after
unsent s t log after is = same_part s t log after is.share (ap (λ (l : BusLog). l.hears) is.line)

sent_fine : (bus : ℕ) (s t : ShareParts) (log after : BusLog) (report : ReportParts)
    → HasSentOnce bus s t log after report → report.outcome ≢ outcome.Failed → AreFollowed 1 s t log after
sent_fine bus s t log after report sent fine =
    let part = sent.fine fine in
    let handouts = ap shown_handouts part in
    let downs = ap shown_downs part in
    let hears : after.hears ≡ log.hears = ap (λ (l : BusLog). l.hears) sent.line in
    record { hears = inl hears; few = inr (omega (arith, handouts, downs, hears)) }

sent_and_failed : (bus : ℕ) (s t : ShareParts) (log after : BusLog) (report : ReportParts)
    → HasSentOnce bus s t log after report → report.outcome ≡ outcome.Failed → AreFollowed 0 s t log after
sent_and_failed bus s t log after report sent failed =
    let part = (sent.failed failed).1 in
    let handouts = ap shown_handouts part in
    let downs = ap shown_downs part in
    let hears : after.hears ≡ log.hears = ap (λ (l : BusLog). l.hears) sent.line in
    record { hears = inl hears; few = inr (omega (arith, handouts, downs, hears)) }

-- whatever it came to
pub sends_followed : (start : Shown) (bus : ℕ) (s t : ShareParts) (log after : BusLog) (result : Result Turn Halt)
    → SendsTurn start bus s t log after result → AreFollowed 1 s t log after
sends_followed start bus s t log after (Ok turns.Busy) is = sent_fine bus s t log after is.0 is.1 is.2
sends_followed start bus s t log after (Ok turns.Idle) is = no_more 1 s t log after (unsent s t log after is.1)
sends_followed start bus s t log after (Ok turns.Down) (inl is) = no_more 1 s t log after (unsent s t log after is.1)
sends_followed start bus s t log after (Ok turns.Down) (inr is) =
    no_more 1 s t log after (sent_and_failed bus s t log after is.0 is.1 is.2)
sends_followed start bus s t log after (Err (Unwritten error)) is =
    ⊎_elim (λ (failed : is.0.outcome ≡ outcome.Failed).
    no_more 1 s t log after (sent_and_failed bus s t log after is.0 is.1 failed))
    (λ (fine : is.0.outcome ≢ outcome.Failed). sent_fine bus s t log after is.0 is.1 fine) (has_failed is.0.outcome)
sends_followed start bus s t log after (Err Memory) is = no_more 1 s t log after (unsent s t log after is)
sends_followed start bus s t log after (Err (Refused refusal)) is =
    no_more 1 s t log after (unsent s t log after is.3)

-- where the bus is down, or nothing was sent
pub sends_followed_down : (start : Shown) (bus : ℕ) (s t : ShareParts) (log after : BusLog)
    → SendsTurn start bus s t log after (Ok turns.Down) → AreFollowed 0 s t log after
sends_followed_down start bus s t log after (inl is) = unsent s t log after is.1
sends_followed_down start bus s t log after (inr is) = sent_and_failed bus s t log after is.0 is.1 is.2

pub sends_followed_idle : (start : Shown) (bus : ℕ) (s t : ShareParts) (log after : BusLog)
    → SendsTurn start bus s t log after (Ok turns.Idle) → AreFollowed 0 s t log after
sends_followed_idle start bus s t log after is = unsent s t log after is.1

pub sends_up : (start : Shown) (bus : ℕ) (s t : ShareParts) (log after : BusLog)
    → SendsTurn start bus s t log after (Ok turns.Busy) → shown_down (whole t) ≡ false
sends_up start bus s t log after is = ap shown_down (is.1.fine is.2) ∙ is.1.up

-- ---- what coming up does

up_again : (bus : ℕ) (s t : ShareParts) (log after : BusLog) → IsUpAgain bus s t log after → AreFollowed 0 s t log after
up_again bus s t log after is =
    let part = noted_whole is.place (Up bus) s t is.noted in
    let handouts = ap shown_handouts part in
    let downs = ap shown_downs part in
    let hears : after.hears ≡ log.hears = ap (λ (l : BusLog). l.hears) is.line in
    record { hears = inl hears; few = inr (omega (arith, handouts, downs, hears)) }

asked_alone : (s t : ShareParts) (log after : BusLog) → IsAskedAlone true s t log after ⊎ IsAskedAlone false s t log after
    → AreFollowed 0 s t log after
asked_alone s t log after (inl is) = same_part s t log after is.share (ap (λ (l : BusLog). l.hears) is.line)
asked_alone s t log after (inr is) = same_part s t log after is.share (ap (λ (l : BusLog). l.hears) is.line)

pub comes_followed : (bus : ℕ) (s t : ShareParts) (log after : BusLog) (result : Result Turn Halt)
    → ComesUp bus s t log after result → AreFollowed 0 s t log after
comes_followed bus s t log after (Ok turns.Busy) is = up_again bus s t log after is
comes_followed bus s t log after (Ok turns.Down) is = asked_alone s t log after (inr is)
comes_followed bus s t log after (Ok turns.Idle) is = asked_alone s t log after (inl is.1)
comes_followed bus s t log after (Err (Unwritten error)) is = up_again bus s t log after is
comes_followed bus s t log after (Err (Refused refusal)) is = asked_alone s t log after (inl is.1)
comes_followed bus s t log after (Err Memory) is = absurd is
