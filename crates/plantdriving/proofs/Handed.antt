-- What is known of a transaction that was just handed out: it is open, its report says what its line sent, and its bus
-- may go down.
use Rattle.std.proofs.Common.{◌≡◌, ◌≢◌, ◌⊎◌, inl, inr, ⊎_elim, ℕ, ◌+◌, ◌<◌, Bool, true, false, not, [], ◌∷◌, length, Some}
use Rattle.std.proofs.Common.{true≢false}
use Rattle.std.proofs.Common.{refl, sym, ap, ◌∙◌, subst, arith}
use Rattle.std.proofs.lemmas.Bool.{lt-ltb}
use Rattle.buslink.specs.BusLog.{BusLog, with_spare}
use Rattle.buslink.specs.Performing.{after_report}
use Rattle.gearcmd.specs.FrameLists.{FrameList}
use Rattle.buslink.specs.Attempts.{ReportParts}
use Rattle.buslink.specs.declared.marks.Outcome.{Outcome}
use Rattle.buslink.specs.declared.marks.Outcome.TheVariants as outcome
use Rattle.plantevents.specs.declared.event.Event.TheVariants.{Hand, Done, Down}
use Rattle.plantevents.specs.declared.event.Origin.{Origin}
use Rattle.plantevents.specs.Histories.{hand, is_down}
use Rattle.plantevents.specs.Legal.{IsUp}
use Rattle.plant.specs.declared.refusal.CallRefusal.{CallRefusal}
use Rattle.plant.specs.declared.refusal.CallRefusal.TheVariants.{Stranger, BusDown}
use Rattle.plant.specs.Matches.{IsOpenTransaction}
use Rattle.plant.specs.Refusals.{first_refusal, has_no_bus, down_cases}
use Rattle.plant.specs.Shown.{Shown, grown}
use Rattle.plantdriving.specs.Links.{IsLinked}
use Rattle.plantdriving.specs.TurnSteps.{IsBusStep}
use Rattle.plantdriving.proofs.Linked.{at_own}

pub hand_is_open : (p r : Shown) (b n : ℕ) (origin : Origin) (t sent : FrameList) → b < p.plant.plan.buses
    → r ≡ grown p (Hand b origin t) → n ≡ length p.history → sent ≡ t → IsOpenTransaction r b n sent
hand_is_open p r b n origin t sent known is number same =
    subst (λ (x : Shown). IsOpenTransaction x b n sent) (sym is) (record {
      known = known;
      handed = record { place = length p.history; origin = origin; transaction = t };
      is_open = at_own b (Some (record { place = length p.history; origin = origin; transaction = t }))
          (hand b p.history);
      number = number;
      same = same;
    })

-- what a report says of a line for which room was made before, it says of the line as it was
pub after_room : (report : ReportParts) (spare : ℕ) (log roomy after : BusLog) → roomy ≡ with_spare roomy.spare log
    → after ≡ after_report report spare roomy → after ≡ after_report report spare log
after_room report spare log roomy after room sent =
    sent ∙ ap (λ (l : BusLog). after_report report spare l) room

-- nothing was handed out, and room was made
pub step_idle : (b : ℕ) (p q : Shown) (log after : BusLog) → q ≡ p → after ≡ with_spare after.spare log
    → IsBusStep b p q log after
step_idle b p q log after same room =
    subst (λ (x : Shown). IsBusStep b p x log after) (sym same) (record {
      later = record {
        later = [];
        history = refl;
        plant = refl;
        limit = refl;
        given = refl;
        idle = λ idle. idle;
      };
      same = record { number = ap (λ (l : BusLog). l.number) room; arrivals = ap (λ (l : BusLog). l.arrivals) room };
      own = λ first is.
          subst (λ (l : BusLog). IsLinked first b p.history l) (sym room)
          (record {
            same = record { number = is.same.number; arrivals = is.same.arrivals };
            sent = is.sent;
            heard = is.heard;
            failed = is.failed;
            mended = is.mended;
          });
      others = λ c other. record { sent = refl; heard = refl; downs = refl; ups = refl };
      hears = inl (ap (λ (l : BusLog). l.hears) room);
    })

pub up_when_handed : (p r : Shown) (b : ℕ) (origin : Origin) (t : FrameList) → r ≡ grown p (Hand b origin t)
    → IsUp p.plant p.history b → IsUp r.plant r.history b
up_when_handed p r b origin t is up =
    subst (λ (x : Shown). IsUp x.plant x.history b) (sym is) (record { known = up.known; up = up.up })

pub has_failed : (o : Outcome) → (o ≡ outcome.Failed) ⊎ (o ≢ outcome.Failed)
has_failed (outcome.Done reply) = inr (λ is. absurd (cc))
has_failed outcome.GaveUp = inr (λ is. absurd (cc))
has_failed outcome.Failed = inl refl

longer_by_report : (b n : ℕ) (origin : Origin) (t : FrameList) (report : ReportParts) (p r q : Shown)
    → r ≡ grown p (Hand b origin t) → q ≡ grown r (Done b n report) → length p.history + 2 ≡ length q.history
longer_by_report b n origin t report p r q handed now =
    let one : length r.history ≡ length p.history + 1 = ap (λ (x : Shown). length x.history) handed ∙ omega arith in
    let two : length q.history ≡ length r.history + 1 = ap (λ (x : Shown). length x.history) now ∙ omega arith in
    omega (arith, one, two)

no_reason : (nobody down : Bool) (refusal : CallRefusal) → nobody ≡ false → down ≡ false
    → first_refusal ((nobody, Stranger) ∷ (down, BusDown) ∷ []) ≡ Some refusal → ⊥
no_reason true down refusal known up is = true≢false known
no_reason false true refusal known up is = true≢false up
no_reason false false refusal known up is = absurd (cc)

-- the bus of a transaction that was reported may go down
pub may_go_down : (b n : ℕ) (report : ReportParts) (r q : Shown) (refusal : CallRefusal) → IsUp r.plant r.history b
    → q ≡ grown r (Done b n report) → first_refusal (down_cases q b) ≡ Some refusal → ⊥
may_go_down b n report r q refusal up now is =
    no_reason (has_no_bus r b) (is_down b r.history) refusal (ap not (lt-ltb b r.plant.plan.buses up.known)) up.up
    (subst (λ (x : Shown). first_refusal (down_cases x b) ≡ Some refusal) now is)

pub longer_by_reports : (b n : ℕ) (origin : Origin) (t : FrameList) (report : ReportParts) (p r q : Shown)
    → r ≡ grown p (Hand b origin t) → (report.outcome ≢ outcome.Failed → q ≡ grown r (Done b n report))
    → (report.outcome ≡ outcome.Failed → q ≡ grown (grown r (Done b n report)) (Down b))
    → length p.history < length q.history
longer_by_reports b n origin t report p r q handed fine failed =
    ⊎_elim
    (λ (is : report.outcome ≡ outcome.Failed).
    let two = longer_by_report b n origin t report p r (grown r (Done b n report)) handed refl in
    let three : length q.history ≡ length r.history + 1 + 1 =
    ap (λ (x : Shown). length x.history) (failed is) ∙ omega arith in
    let one : length r.history ≡ length p.history + 1 = ap (λ (x : Shown). length x.history) handed ∙ omega arith in
    omega (arith, one, three))
    (λ (other : report.outcome ≢ outcome.Failed).
    let two = longer_by_report b n origin t report p r q handed (fine other) in omega (arith, two))
    (has_failed report.outcome)
