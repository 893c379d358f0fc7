-- A log that goes with a history goes with it after what happens on its bus, and so does each other log.
use Rattle.std.proofs.Common.{◌≡◌, ◌≢◌, inl, inr, ⊎_elim, ℕ, eqb, ◌-◌, ◌^◌, ◌<◌, Bool, List, [], ◌++◌}
use Rattle.std.proofs.Common.{refl, sym, ap, ◌∙◌, subst, eq-eqb, arith}
use Rattle.std.proofs.lemmas.Bool.{ne_eqb}
use Rattle.std.proofs.lemmas.List.{append_assoc}
use Rattle.std.specs.Prelude.{if◌then◌else◌}
use Rattle.buslink.specs.BusLog.{BusLog, IsSameBus}
use Rattle.plantevents.specs.declared.event.Event.{Event}
use Rattle.plant.specs.Shown.{Shown}
use Rattle.plantdriving.specs.Links.{HasGrown, so_many_more}
use Rattle.plantdriving.specs.Links.{IsLinked, IsAsked, HasHeard}
use Rattle.plantdriving.specs.TurnSteps.{IsSameOn, IsLater, IsBusStep, IsScanStep}

pub at_own : {X : Type 0} → (b : ℕ) (x y : X) → (if eqb b b then x else y) ≡ x
at_own b x y = ap (λ (k : Bool). if k then x else y) (eq-eqb b b refl)

pub elsewhere : {X : Type 0} → (b own : ℕ) (x y : X) → b ≢ own → (if eqb own b then x else y) ≡ y
elsewhere b own x y other = ap (λ (k : Bool). if k then x else y) (ne_eqb own b (λ same. other (sym same)))

-- ---- the same bus

pub same_bus_then : (first second log : BusLog) → IsSameBus first second → IsSameBus second log → IsSameBus first log
same_bus_then first second log one two =
    record { number = two.number ∙ one.number; arrivals = two.arrivals ∙ one.arrivals }

-- the logs are one
pub same_bus_of : (first log : BusLog) → log ≡ first → IsSameBus first log
same_bus_of first log is =
    record { number = ap (λ (l : BusLog). l.number) is; arrivals = ap (λ (l : BusLog). l.arrivals) is }

-- ---- another history

-- a log goes with another history that has the same of its bus
pub linked_moved : (first : BusLog) (b : ℕ) (h g : List Event) (log : BusLog) → IsSameOn b h g → IsLinked first b h log
    → IsLinked first b g log
linked_moved first b h g log same is = record {
  same = is.same;
  sent = is.sent ∙ ap (λ x. first.sent ++ x) (sym same.sent);
  heard = is.heard ∙ ap (λ x. first.heard ++ x) (sym same.heard);
  failed = is.failed ∙ ap (λ n. so_many_more n first.failures) (sym same.downs);
  mended = is.mended ∙ ap (λ n. so_many_more n first.mends) (sym same.ups);
}

-- ---- what follows

pub asked_since : (first second log : BusLog) → HasHeard first second → IsAsked second log → IsAsked first log
asked_since first second log before asked =
    ⊎_elim (λ (same : second.hears ≡ first.hears).
    ⊎_elim (λ (more : second.hears < log.hears). (asked.0, inl (omega (arith, same, more))))
    (λ (most : log.hears ≡ 2 ^ 64 - 1). (asked.0, inr most)) asked.1)
    (λ (was : IsAsked first second).
    ⊎_elim (λ (more : second.hears < log.hears).
    ⊎_elim (λ (first_more : first.hears < second.hears). (asked.0, inl (omega (arith, first_more, more))))
    (λ (most : second.hears ≡ 2 ^ 64 - 1). let within = asked.0 in absurd (omega (arith, within, more, most))) was.1)
    (λ (most : log.hears ≡ 2 ^ 64 - 1). (asked.0, inr most))
    asked.1) before

pub heard_then : (first second log : BusLog) → HasHeard first second → HasHeard second log → HasHeard first log
heard_then first second log one two =
    ⊎_elim (λ (same : log.hears ≡ second.hears).
    ⊎_elim (λ (was : second.hears ≡ first.hears). inl (same ∙ was))
    (λ (was : IsAsked first second).
    inr (subst (λ (n : ℕ). HasGrown first.hears n) (sym same) was)) one)
    (λ (asked : IsAsked second log). inr (asked_since first second log one asked)) two

pub later_then : (p q r : Shown) → IsLater p q → IsLater q r → IsLater p r
later_then p q r one two = record {
  later = two.later ++ one.later;
  history = two.history
      ∙ (ap (λ (h : List Event). two.later ++ h) one.history ∙ sym (append_assoc two.later one.later p.history));
  plant = two.plant ∙ one.plant;
  limit = two.limit ∙ one.limit;
  given = two.given ∙ one.given;
  idle = λ idle. two.idle (one.idle idle);
}

pub same_on_then : (b : ℕ) (h g f : List Event) → IsSameOn b h g → IsSameOn b g f → IsSameOn b h f
same_on_then b h g f one two = record {
  sent = two.sent ∙ one.sent;
  heard = two.heard ∙ one.heard;
  downs = two.downs ∙ one.downs;
  ups = two.ups ∙ one.ups;
}

pub step_then : (b : ℕ) (p q r : Shown) (log between after : BusLog) → IsBusStep b p q log between
    → IsBusStep b q r between after → IsBusStep b p r log after
step_then b p q r log between after one two = record {
  later = later_then p q r one.later two.later;
  same = same_bus_then log between after one.same two.same;
  own = λ first is. two.own first (one.own first is);
  others = λ c other. same_on_then c p.history q.history r.history (one.others c other) (two.others c other);
  hears = heard_then log between after one.hears two.hears;
}

pub scan_then : (p q r : Shown) → IsScanStep p q → IsScanStep q r → IsScanStep p r
scan_then p q r one two = record {
  later = later_then p q r one.later two.later;
  buses = λ b. same_on_then b p.history q.history r.history (one.buses b) (two.buses b);
}

-- nothing happened
pub scan_nothing : (p : Shown) → IsScanStep p p
scan_nothing p = record {
  later = record { later = []; history = refl; plant = refl; limit = refl; given = refl; idle = λ idle. idle };
  buses = λ b. record { sent = refl; heard = refl; downs = refl; ups = refl };
}

pub step_nothing : (b : ℕ) (p : Shown) (log : BusLog) → IsBusStep b p p log log
step_nothing b p log = record {
  later = record { later = []; history = refl; plant = refl; limit = refl; given = refl; idle = λ idle. idle };
  same = record { number = refl; arrivals = refl };
  own = λ first is. is;
  others = λ c other. record { sent = refl; heard = refl; downs = refl; ups = refl };
  hears = inl refl;
}
