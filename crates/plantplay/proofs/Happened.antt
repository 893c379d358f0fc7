-- What happens by one line, and what follows from it.
use Rattle.std.proofs.Common.{◌≡◌, inl, inr, ⊎_elim, ℕ, ◌<◌, ◌≤◌, Bool, true, false, true≢false, List, [], ◌∷◌, Some, sym, ap, ◌∙◌, subst, arith}
use Rattle.std.proofs.lemmas.Bool.{cases_lt, lt-ltb, ltb-true}
use Rattle.std.specs.Prelude.{Result, Ok, Err, OnOk, IfErr, MatchResult, nat_lt}
use Rattle.buslink.specs.BusLog.{BusLog}
use Rattle.wordlines.specs.declared.happenings.Happening.{Happening}
use Rattle.wordlines.specs.declared.happenings.Happening.TheVariants.{Tick, Event, HearFault}
use Rattle.plant.specs.Refusals.{first_refusal, tick_cases}
use Rattle.plant.specs.Shown.{Shown}
use Rattle.plantdriving.specs.declared.halt.Halt.{Halt}
use Rattle.plantdriving.specs.declared.halt.Halt.TheVariants.{Refused, Memory, Unwritten}
use Rattle.plantdriving.specs.Driven.{CannotGoOn, IsDriven}
use Rattle.plantdriving.specs.Ticks.{TicksAt}
use Rattle.plantdriving.proofs.Linked.{scan_nothing}
use Rattle.plantdriving.proofs.Turned.{finish_of_scan, finish_then}
use Rattle.plantplay.specs.Stage.{Stage, Comes, Happens, HasSettled, HasSettledFor, IsBegun, IsPlayedAsFar, IsPlayedBy, Settles}
use Rattle.plantplay.specs.PlaySteps.{IsHaltedAt, StopsAt}

-- what settles was driven
pub driven_of : (s t : Stage) → HasSettled s t → IsDriven s.plant t.plant s.logs t.logs
driven_of s t is =
    finish_then s.plant is.heard.between t.plant s.logs is.heard.logs t.logs is.heard.heard.driven is.heard.rest

pub not_driven : (p : Shown) (logs : List BusLog) → IsDriven p p logs logs
not_driven p logs = finish_of_scan p p logs (scan_nothing p)

-- what follows drives the plant, if at all
pub settles_driven : (happening : Happening) (s t : Stage) → Settles happening s t
    → IsDriven s.plant t.plant s.logs t.logs
settles_driven (Tick m) s t settles = driven_of s t settles
settles_driven (Event b frame) s t settles =
    ⊎_elim (λ (below : b < s.plant.plant.plan.buses). driven_of s t (settles.settled below))
    (λ (above : s.plant.plant.plan.buses ≤ b).
    subst (λ (x : Stage). IsDriven s.plant x.plant s.logs x.logs) (sym (settles.same above))
    (not_driven s.plant s.logs)) (cases_lt b s.plant.plant.plan.buses)
settles_driven (HearFault b) s t settles =
    subst (λ (x : Stage). IsDriven s.plant x.plant s.logs x.logs) (sym settles) (not_driven s.plant s.logs)

-- what is so of a stage whatever comes, and whatever is driven, is so after all that was played
abbrev pub KeptByComing : (Stage → Type 0) → Type 0
KeptByComing P = (happening : Happening) (s t : Stage) → Comes happening s t → P s → P t

abbrev pub KeptByDriving : (Stage → Type 0) → Type 0
KeptByDriving P = (s t : Stage) → IsDriven s.plant t.plant s.logs t.logs → P s → P t

kept_by : (P : Stage → Type 0) → KeptByComing P → KeptByDriving P → (done : List Happening) (s t : Stage)
    → IsPlayedBy done s t → P s → P t
kept_by P coming driving [] s t is so = subst P (sym is) so
kept_by P coming driving (happening ∷ earlier) s t is so =
    let before = is.0 in let came = is.2.0 in
    driving came t (settles_driven happening came t is.2.2)
    (coming happening before came is.2.1 (kept_by P coming driving earlier s before is.1 so))

kept_begun : (P : Stage → Type 0) → KeptByComing P → KeptByDriving P → (rest : List Happening) (s t : Stage)
    → IsBegun rest s t → P s → P t
kept_begun P coming driving [] s t is so = subst P (sym is) so
kept_begun P coming driving (happening ∷ more) s t (inl none) so = subst P (sym none) so
kept_begun P coming driving (happening ∷ more) s t (inr (came, comes, driven)) so =
    driving came t driven (coming happening s came comes so)

pub kept_as_far : (P : Stage → Type 0) → KeptByComing P → KeptByDriving P → (all rest : List Happening) (s t : Stage)
    → IsPlayedAsFar all rest s t → P s → P t
kept_as_far P coming driving all rest s t is so =
    kept_begun P coming driving rest is.between t is.begun (kept_by P coming driving is.done s is.between is.played so)

-- ---- calls

pub same_stage : (s t : Stage) → t.plant ≡ s.plant → t.logs ≡ s.logs → t ≡ s
same_stage s t plant logs =
    ap (λ (p : Shown). record { plant = p; logs = t.logs }) plant
    ∙ ap (λ (ls : List BusLog). record { plant = s.plant; logs = ls }) logs

-- the moment did not come, or no more came of it
pub tick_halts : (m : ℕ) (s t : Stage) (halt : Halt) → TicksAt {A = Bool} m s.plant t.plant (Err halt) → t.logs ≡ s.logs
    → IsHaltedAt (Tick m) s t halt
tick_halts m s t (Refused refusal) ticks logs = record {
  begun = inl (same_stage s t ticks.1 logs);
  stops = inr (
    refusal,
    subst (λ (p : Shown). first_refusal (tick_cases p m) ≡ Some refusal) (sym ticks.1) ticks.0,
  );
}
tick_halts m s t Memory ticks logs = absurd ticks
tick_halts m s t (Unwritten error) ticks logs = record {
  begun = inr (t, record { plant = ticks; logs = logs }, not_driven t.plant t.logs);
  stops = tt;
}

cannot_go_on : (happening : Happening) (p : Shown) (halt : Halt) → CannotGoOn p halt → StopsAt (happening ∷ []) p halt
cannot_go_on happening p (Refused refusal) stops = inl stops.1
cannot_go_on happening p Memory stops = tt
cannot_go_on happening p (Unwritten error) stops = tt

-- it came, and all that follows was begun
pub settle_halts : (happening : Happening) (s came t : Stage) (halt : Halt) → Comes happening s came
    → IsDriven came.plant t.plant came.logs t.logs → CannotGoOn t.plant halt → IsHaltedAt happening s t halt
settle_halts happening s came t halt comes driven stops =
    record { begun = inr (came, comes, driven); stops = cannot_go_on happening t.plant halt stops }

-- it came, and all that follows was done, or begun
pub settle_ends : {A : Type 0} → (happening : Happening) (s came t : Stage) (result : Result A Halt)
    → Comes happening s came → (HasSettled came t → Settles happening came t)
    → IsDriven came.plant t.plant came.logs t.logs → OnOk result (HasSettled came t) → IfErr result (CannotGoOn t.plant)
    → MatchResult result (λ done. Happens happening s t) (IsHaltedAt happening s t)
settle_ends happening s came t (Ok done) comes settles driven settled stops = (came, comes, settles settled)
settle_ends happening s came t (Err halt) comes settles driven settled stops =
    settle_halts happening s came t halt comes driven stops

-- on a bus that is there
pub settles_there : (b buses : ℕ) (s t : Stage) → true ≡ nat_lt b buses → s.plant.plant.plan.buses ≡ buses → HasSettled s t
    → HasSettledFor b s t
settles_there b buses s t there are settled =
    record {
      settled = λ below. settled;
      same = λ above. let below = ltb-true b buses (sym there) in absurd (omega (arith, below, above, are));
    }

-- and on none
pub settles_nowhere : (b buses : ℕ) (s t : Stage) → false ≡ nat_lt b buses → s.plant.plant.plan.buses ≡ buses → t ≡ s → HasSettledFor b s t
settles_nowhere b buses s t none are same =
    record {
      settled = λ below.
          absurd (true≢false (sym (lt-ltb b buses (subst (λ (n : ℕ). b < n) are below)) ∙ sym none));
      same = λ above. same;
    }
