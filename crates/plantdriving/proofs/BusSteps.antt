-- What happens on one bus: a frame is heard, a transaction is sent, the bus goes down.
use Rattle.std.proofs.Common.{◌≡◌, ◌≢◌, inl, inr, ⊎_elim, ℕ, suc, ◌==◌, length}
use Rattle.std.proofs.Common.{◌+◌, ◌-◌, ◌^◌, ◌<◌, ◌≤◌, Bool, true, false}
use Rattle.std.proofs.Common.{List, [], ◌∷◌, ◌++◌, None, Some, refl, sym, ap, ◌∙◌, subst, arith}
use Rattle.std.proofs.lemmas.Bool.{cases_lt}
use Rattle.std.proofs.lemmas.List.{append_assoc}
use Rattle.std.specs.Prelude.{if◌then◌else◌}
use Rattle.std.specs.Prelude.{Ok, Err}
use Rattle.buslink.specs.BusLog.{BusLog, HasHeardAll, IsSameBus, one_more, one_more_hear, after_hear, with_spare}
use Rattle.buslink.specs.declared.faults.Fault.{Fault}
use Rattle.buslink.specs.Performing.{after_report, failures_after}
use Rattle.gearcmd.specs.FrameLists.{FrameList}
use Rattle.buslink.specs.Attempts.{ReportParts}
use Rattle.buslink.specs.declared.marks.Outcome.{Outcome}
use Rattle.buslink.specs.declared.marks.Outcome.TheVariants as outcome
use Rattle.plantevents.specs.declared.event.Event.{Event}
use Rattle.plantevents.specs.declared.event.Event.TheVariants.{Heard, Hand, Done, Down}
use Rattle.plantevents.specs.declared.event.Origin.{Origin}
use Rattle.plantevents.specs.declared.role.Role.TheVariants.{Bus}
use Rattle.plantevents.specs.Histories.{hand, sent_in, heard_in, downs_in, ups_in}
use Rattle.plant.specs.Shown.{Shown, grown, reserving}
use Rattle.plantdriving.specs.Links.{so_many_more}
use Rattle.plantdriving.specs.Open.{HasNothingOpen}
use Rattle.plantdriving.specs.Links.{IsLinked, IsAsked, HasHeard}
use Rattle.plantdriving.specs.Quiet.{WasSilent}
use Rattle.plantdriving.specs.TurnSteps.{IsSameOn, IsBusStep}
use Rattle.plantdriving.proofs.Handed.{has_failed}
use Rattle.plantdriving.proofs.Linked.{at_own, elsewhere, same_bus_then, same_on_then}

-- ---- a call more that hears

pub asked_once : (first log : BusLog) → log.hears ≡ one_more_hear first.hears → IsAsked first log
asked_once first log is = (
  omega (arith, is),
  ⊎_elim (λ (few : first.hears < 2 ^ 64 - 1). inl (omega (arith, is, few)))
      (λ (many : 2 ^ 64 - 1 ≤ first.hears). inr (omega (arith, is, many)))
      (cases_lt first.hears (2 ^ 64 - 1)),
)

-- ---- a frame

heard_elsewhere : (b own frame : ℕ) (h : List Event) → b ≢ own → IsSameOn b h (Heard own frame ∷ h)
heard_elsewhere b own frame h other = record {
  sent = refl;
  heard = elsewhere b own (heard_in b h ++ frame ∷ []) (heard_in b h) other;
  downs = refl;
  ups = refl;
}

heard_here : (first : BusLog) (b frame : ℕ) (h : List Event) (log after : BusLog) → IsSameBus log after
    → after.sent ≡ log.sent → after.heard ≡ log.heard ++ frame ∷ [] → after.failures ≡ log.failures
    → after.mends ≡ log.mends → IsLinked first b h log → IsLinked first b (Heard b frame ∷ h) after
heard_here first b frame h log after same sent heard failed mended is = record {
  same = same_bus_then first log after is.same same;
  sent = sent ∙ is.sent;
  heard = heard
      ∙ (ap (λ (fs : List ℕ). fs ++ frame ∷ []) is.heard
      ∙ (append_assoc first.heard (heard_in b h) (frame ∷ [])
      ∙ ap (λ x. first.heard ++ x) (sym (at_own b (heard_in b h ++ frame ∷ []) (heard_in b h)))));
  failed = failed ∙ is.failed;
  mended = mended ∙ is.mended;
}

-- a frame was heard, for which a place was kept back before
pub step_heard : (b frame : ℕ) (p r q : Shown) (log after : BusLog) → r ≡ reserving (Bus b) p
    → q ≡ grown r (Heard b frame) → IsSameBus log after → after.sent ≡ log.sent
    → after.heard ≡ log.heard ++ frame ∷ [] → after.failures ≡ log.failures → after.mends ≡ log.mends
    → HasHeard log after → IsBusStep b p q log after
step_heard b frame p r q log after kept now same sent heard failed mended hears =
    subst (λ (x : Shown). IsBusStep b p x log after)
    (sym (now ∙ ap (λ (x : Shown). grown x (Heard b frame)) kept)) (record {
      later = record {
        later = Heard b frame ∷ [];
        history = refl;
        plant = refl;
        limit = refl;
        given = refl;
        idle = λ idle. record { no_scan = idle.no_scan; no_hand = idle.no_hand };
      };
      same = same;
      own = λ first is. heard_here first b frame p.history log after same sent heard failed mended is;
      others = λ c other. heard_elsewhere c b frame p.history other;
      hears = hears;
    })

-- ---- a bus goes down

down_elsewhere : (b own : ℕ) (h : List Event) → b ≢ own → IsSameOn b h (Down own ∷ h)
down_elsewhere b own h other = record {
  sent = refl;
  heard = refl;
  downs = elsewhere b own (downs_in b h + 1) (downs_in b h) other;
  ups = refl;
}

pub one_failure_more : (n first : ℕ) → so_many_more (n + 1) first ≡ one_more (so_many_more n first)
one_failure_more n first =
    let more : n + 1 ≡ suc n = omega arith in ap (λ (k : ℕ). so_many_more k first) more

-- the log met one failure more than the history says
record IsBehind (first : BusLog) (b : ℕ) (h : List Event) (log : BusLog) : Type 0 where
  pub same : IsSameBus first log
  pub sent : log.sent ≡ first.sent ++ sent_in b h
  pub heard : log.heard ≡ first.heard ++ heard_in b h
  pub failed : log.failures ≡ one_more (so_many_more (downs_in b h) first.failures)
  pub mended : log.mends ≡ so_many_more (ups_in b h) first.mends

down_here : (first : BusLog) (b : ℕ) (h : List Event) (log : BusLog) → IsBehind first b h log
    → IsLinked first b (Down b ∷ h) log
down_here first b h log is = record {
  same = is.same;
  sent = is.sent;
  heard = is.heard;
  failed = is.failed
      ∙ (sym (one_failure_more (downs_in b h) first.failures)
      ∙ ap (λ (n : ℕ). so_many_more n first.failures) (sym (at_own b (downs_in b h + 1) (downs_in b h))));
  mended = is.mended;
}

down_open : (p : Shown) (b : ℕ) → HasNothingOpen p → HasNothingOpen (grown p (Down b))
down_open p b idle = record {
  no_scan = idle.no_scan;
  no_hand = λ c known. elim (b == c) as (λ (k : Bool). (if k then None else hand c p.history) ≡ None) [
    | true ↦ refl
    | false ↦ idle.no_hand c known
  ];
}

-- the interface failed when it was to hear, and the bus went down
pub step_failed : (b : ℕ) (p r q : Shown) (log after : BusLog) → r ≡ reserving (Bus b) p → q ≡ grown r (Down b)
    → IsSameBus log after → after.sent ≡ log.sent → after.heard ≡ log.heard → after.failures ≡ one_more log.failures
    → after.mends ≡ log.mends → HasHeard log after → IsBusStep b p q log after
step_failed b p r q log after kept now same sent heard failed mended hears =
    subst (λ (x : Shown). IsBusStep b p x log after) (sym (now ∙ ap (λ (x : Shown). grown x (Down b)) kept)) (record {
      later = record {
        later = Down b ∷ [];
        history = refl;
        plant = refl;
        limit = refl;
        given = refl;
        idle = λ idle. let is = down_open p b idle in record { no_scan = is.no_scan; no_hand = is.no_hand };
      };
      same = same;
      own = λ first is. down_here first b p.history after (record {
        same = same_bus_then first log after is.same same;
        sent = sent ∙ is.sent;
        heard = heard ∙ is.heard;
        failed = failed ∙ ap one_more is.failed;
        mended = mended ∙ is.mended;
      });
      others = λ c other. down_elsewhere c b p.history other;
      hears = hears;
    })

-- ---- a call that hears, for which room was made before

pub step_frame : (b frame : ℕ) (p r q : Shown) (log roomy after : BusLog) → r ≡ reserving (Bus b) p
    → q ≡ grown r (Heard b frame) → roomy ≡ with_spare roomy.spare log → after ≡ after_hear (Ok (Some frame)) roomy
    → IsBusStep b p q log after
step_frame b frame p r q log roomy after kept now room hear =
    let same : after ≡ after_hear (Ok (Some frame)) (with_spare roomy.spare log) =
    hear ∙ ap (λ (l : BusLog). after_hear (Ok (Some frame)) l) room in
    step_heard b frame p r q log after kept now
    (record { number = ap (λ (l : BusLog). l.number) same; arrivals = ap (λ (l : BusLog). l.arrivals) same })
    (ap (λ (l : BusLog). l.sent) same)
    (ap (λ (l : BusLog). l.heard) same) (ap (λ (l : BusLog). l.failures) same) (ap (λ (l : BusLog). l.mends) same)
    (inr (asked_once log after (ap (λ (l : BusLog). l.hears) same)))

pub step_fault : (b : ℕ) (fault : Fault) (p r q : Shown) (log roomy after : BusLog) → r ≡ reserving (Bus b) p
    → q ≡ grown r (Down b) → roomy ≡ with_spare roomy.spare log → after ≡ after_hear (Err fault) roomy
    → IsBusStep b p q log after
step_fault b fault p r q log roomy after kept now room hear =
    let same : after ≡ after_hear (Err fault) (with_spare roomy.spare log) =
    hear ∙ ap (λ (l : BusLog). after_hear (Err fault) l) room in
    step_failed b p r q log after kept now
    (record { number = ap (λ (l : BusLog). l.number) same; arrivals = ap (λ (l : BusLog). l.arrivals) same })
    (ap (λ (l : BusLog). l.sent) same)
    (ap (λ (l : BusLog). l.heard) same) (ap (λ (l : BusLog). l.failures) same) (ap (λ (l : BusLog). l.mends) same)
    (inr (asked_once log after (ap (λ (l : BusLog). l.hears) same)))

-- the bus was silent, and a place is kept back
pub step_silent : (b : ℕ) (p r : Shown) (log roomy after : BusLog) → r ≡ reserving (Bus b) p
    → roomy ≡ with_spare roomy.spare log → after ≡ after_hear (Ok None) roomy → IsBusStep b p r log after
step_silent b p r log roomy after kept room hear =
    let same : after ≡ after_hear (Ok None) (with_spare roomy.spare log) =
    hear ∙ ap (λ (l : BusLog). after_hear (Ok None) l) room in
    subst (λ (x : Shown). IsBusStep b p x log after) (sym kept) (record {
      later = record {
        later = [];
        history = refl;
        plant = refl;
        limit = refl;
        given = refl;
        idle = λ idle. record { no_scan = idle.no_scan; no_hand = idle.no_hand };
      };
      same = record { number = ap (λ (l : BusLog). l.number) same; arrivals = ap (λ (l : BusLog). l.arrivals) same };
      own = λ first is.
          subst (λ (l : BusLog). IsLinked first b p.history l) (sym same)
          (record {
            same = record { number = is.same.number; arrivals = is.same.arrivals };
            sent = is.sent;
            heard = is.heard;
            failed = is.failed;
            mended = is.mended;
          });
      others = λ c other. record { sent = refl; heard = refl; downs = refl; ups = refl };
      hears = inr (asked_once log after (ap (λ (l : BusLog). l.hears) same));
    })

pub was_silent : (log roomy after : BusLog) → roomy ≡ with_spare roomy.spare log → after ≡ after_hear (Ok None) roomy
    → HasHeardAll roomy → WasSilent log after
was_silent log roomy after room hear all = record {
  none = ap (λ (l : BusLog). l.heard_none) hear;
  asked =
      asked_once log after
      (ap (λ (l : BusLog). l.hears) (hear ∙ ap (λ (l : BusLog). after_hear (Ok None) l) room));
  all = subst HasHeardAll (sym hear) all;
}

-- ---- a transaction

-- the history after a transaction was handed out and reported
abbrev reported : ℕ → ℕ → Origin → FrameList → ReportParts → List Event → List Event
reported b n origin t report h = Done b n report ∷ Hand b origin t ∷ h

sent_elsewhere : (b own n : ℕ) (origin : Origin) (t : FrameList) (report : ReportParts) (h : List Event) → b ≢ own
    → IsSameOn b h (reported own n origin t report h)
sent_elsewhere b own n origin t report h other = record {
  sent = elsewhere b own (sent_in b h ++ report.attempts) (sent_in b h) other;
  heard = refl;
  downs = refl;
  ups = refl;
}

sent_is : (first : BusLog) (b n : ℕ) (origin : Origin) (t : FrameList) (report : ReportParts) (h : List Event)
    (log after : BusLog) (spare : ℕ) → after ≡ after_report report spare log → IsLinked first b h log
    → after.sent ≡ first.sent ++ sent_in b (reported b n origin t report h)
sent_is first b n origin t report h log after spare is linked =
    ap (λ (l : BusLog). l.sent) is
    ∙ (ap (λ x. x ++ report.attempts) linked.sent
    ∙ (append_assoc first.sent (sent_in b h) report.attempts
    ∙ ap (λ x. first.sent ++ x) (sym (at_own b (sent_in b h ++ report.attempts) (sent_in b h)))))

same_reported : (report : ReportParts) (spare : ℕ) (log after : BusLog) → after ≡ after_report report spare log
    → IsSameBus log after
same_reported report spare log after is =
    record { number = ap (λ (l : BusLog). l.number) is; arrivals = ap (λ (l : BusLog). l.arrivals) is }

-- it did not fail
failed_not : (o : Outcome) (failures : ℕ) → o ≢ outcome.Failed → failures_after o failures ≡ failures
failed_not (outcome.Done reply) failures fine = refl
failed_not outcome.GaveUp failures fine = refl
failed_not outcome.Failed failures fine = absurd (fine refl)

fine_here : (first : BusLog) (b n : ℕ) (origin : Origin) (t : FrameList) (report : ReportParts) (h : List Event)
    (log after : BusLog) (spare : ℕ) → after ≡ after_report report spare log → report.outcome ≢ outcome.Failed
    → IsLinked first b h log → IsLinked first b (reported b n origin t report h) after
fine_here first b n origin t report h log after spare is fine linked = record {
  same = same_bus_then first log after linked.same (same_reported report spare log after is);
  sent = sent_is first b n origin t report h log after spare is linked;
  heard = ap (λ (l : BusLog). l.heard) is ∙ linked.heard;
  failed = ap (λ (l : BusLog). l.failures) is
      ∙ (failed_not report.outcome log.failures fine ∙ linked.failed);
  mended = ap (λ (l : BusLog). l.mends) is ∙ linked.mended;
}

-- it failed, and the bus goes down
failed_here : (first : BusLog) (b n : ℕ) (origin : Origin) (t : FrameList) (report : ReportParts) (h : List Event)
    (log after : BusLog) (spare : ℕ) → after ≡ after_report report spare log → report.outcome ≡ outcome.Failed
    → IsLinked first b h log → IsBehind first b (reported b n origin t report h) after
failed_here first b n origin t report h log after spare is failed linked = record {
  same = same_bus_then first log after linked.same (same_reported report spare log after is);
  sent = sent_is first b n origin t report h log after spare is linked;
  heard = ap (λ (l : BusLog). l.heard) is ∙ linked.heard;
  failed = ap (λ (l : BusLog). l.failures) is
      ∙ (ap (λ o. failures_after o log.failures) failed ∙ ap one_more linked.failed);
  mended = ap (λ (l : BusLog). l.mends) is ∙ linked.mended;
}

reported_open : (p : Shown) (b n : ℕ) (origin : Origin) (t : FrameList) (report : ReportParts) → HasNothingOpen p
    → HasNothingOpen (grown (grown p (Hand b origin t)) (Done b n report))
reported_open p b n origin t report idle = record {
  no_scan = idle.no_scan;
  no_hand = λ c known. elim (b == c) as (λ (k : Bool). (if k then None
      else (if k then Some (record { place = length p.history; origin = origin; transaction = t })
      else hand c p.history))
      ≡ None) [
        | true ↦ refl
        | false ↦ idle.no_hand c known
      ];
}

pub step_sent : (b n : ℕ) (origin : Origin) (t : FrameList) (report : ReportParts) (p r q : Shown) (log after : BusLog)
    (spare : ℕ) → r ≡ grown p (Hand b origin t) → q ≡ grown r (Done b n report)
    → after ≡ after_report report spare log → report.outcome ≢ outcome.Failed → IsBusStep b p q log after
step_sent b n origin t report p r q log after spare handed now is fine =
    subst (λ (x : Shown). IsBusStep b p x log after)
    (sym (now ∙ ap (λ (x : Shown). grown x (Done b n report)) handed)) (record {
      later = record {
        later = Done b n report ∷ Hand b origin t ∷ [];
        history = refl;
        plant = refl;
        limit = refl;
        given = refl;
        idle = reported_open p b n origin t report;
      };
      same = same_reported report spare log after is;
      own = λ first linked. fine_here first b n origin t report p.history log after spare is fine linked;
      others = λ c other. sent_elsewhere c b n origin t report p.history other;
      hears = inl (ap (λ (l : BusLog). l.hears) is);
    })

pub step_sent_down : (b n : ℕ) (origin : Origin) (t : FrameList) (report : ReportParts) (p r s q : Shown)
    (log after : BusLog) (spare : ℕ) → r ≡ grown p (Hand b origin t) → s ≡ grown r (Done b n report)
    → q ≡ grown s (Down b) → after ≡ after_report report spare log → report.outcome ≡ outcome.Failed
    → IsBusStep b p q log after
step_sent_down b n origin t report p r s q log after spare handed now down is failed =
    subst (λ (x : Shown). IsBusStep b p x log after)
    (sym (down ∙ ap (λ (x : Shown). grown x (Down b))
    (now ∙ ap (λ (x : Shown). grown x (Done b n report)) handed))) (record {
      later = record {
        later = Down b ∷ Done b n report ∷ Hand b origin t ∷ [];
        history = refl;
        plant = refl;
        limit = refl;
        given = refl;
        idle = λ idle. down_open (grown (grown p (Hand b origin t)) (Done b n report)) b
            (reported_open p b n origin t report idle);
      };
      same = same_reported report spare log after is;
      own = λ first linked.
          down_here first b (reported b n origin t report p.history) after
          (failed_here first b n origin t report p.history log after spare is failed linked);
      others = λ c other.
          same_on_then c p.history (reported b n origin t report p.history)
          (Down b ∷ reported b n origin t report p.history)
          (sent_elsewhere c b n origin t report p.history other)
          (down_elsewhere c b (reported b n origin t report p.history) other);
      hears = inl (ap (λ (l : BusLog). l.hears) is);
    })

-- it was reported, and where it failed the bus went down
pub step_reported : (b n : ℕ) (origin : Origin) (t : FrameList) (report : ReportParts) (p r q : Shown)
    (log after : BusLog) (spare : ℕ) → r ≡ grown p (Hand b origin t)
    → (report.outcome ≢ outcome.Failed → q ≡ grown r (Done b n report))
    → (report.outcome ≡ outcome.Failed → q ≡ grown (grown r (Done b n report)) (Down b))
    → after ≡ after_report report spare log → IsBusStep b p q log after
step_reported b n origin t report p r q log after spare handed fine failed is =
    ⊎_elim
    (λ (fails : report.outcome ≡ outcome.Failed).
    step_sent_down b n origin t report p r (grown r (Done b n report)) q log after spare handed refl (failed fails) is
    fails)
    (λ (other : report.outcome ≢ outcome.Failed).
    step_sent b n origin t report p r q log after spare handed (fine other) is other) (has_failed report.outcome)
