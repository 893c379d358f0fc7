-- How a play of one tick ends, and what is so of each result.
use Rattle.std.proofs.Common.{◌≡◌, ◌⊎◌, ⊎_elim, inl, inr, ℕ, ◌<◌, ◌&&◌, Bool, true, false, List, [], ◌∷◌, ◌++◌, Some, Result, Ok, Err}
use Rattle.std.proofs.Common.{IfOk, MatchResult, length, refl, sym, ◌∙◌, subst}
use Rattle.std.proofs.lemmas.Bool.{ltb-true}
use Rattle.std.specs.Prelude.{is_some, nat_lt, not, reverse}
use Rattle.wordlines.specs.declared.happenings.Happening.{Happening}
use Rattle.wordlines.specs.declared.happenings.Happening.TheVariants.{Tick}
use Rattle.plantevents.specs.declared.role.Role.TheVariants.{Bus, Clock}
use Rattle.plantevents.specs.Histories.{hand, is_down, moment, scan}
use Rattle.plantevents.specs.Waiting.{handouts}
use Rattle.plant.specs.declared.refusal.CallRefusal.{CallRefusal}
use Rattle.plant.specs.declared.refusal.CallRefusal.TheVariants.{ClockBack, NothingReady, Stranger, Busy, BusDown, Full}
use Rattle.plant.specs.Refusals.{first_refusal, has_no_bus, has_no_worker, none_free, tick_cases}
use Rattle.plant.specs.Shown.{Shown, is_full, is_reserved}
use Rattle.plantdriving.specs.Driven.{IsStuck}
use Rattle.plantplay.specs.declared.ending.Ending.{Ending}
use Rattle.plantplay.specs.declared.ending.Ending.TheVariants.{Limit}
use Rattle.plantplay.specs.Stage.{IsPlayedTo, IsRefused, IsRefusedMoment, Stage}

-- what holds of each value of a result
pub if_match : {X E : Type 0} (P : X → Type 0) (R : E → Type 0) (Q : X → Type 0) (given : Result X E)
    → MatchResult given P R → ((x : X) → P x → Q x) → IfOk given Q
if_match P R Q (Ok x) holds each = each x holds
if_match P R Q (Err e) holds each = tt

-- ---- why a play ends at its limit

no_scan : (stranger busy none full : Bool)
    → first_refusal ((stranger, Stranger) ∷ (busy, Busy) ∷ (none, NothingReady) ∷ (full, Full) ∷ []) ≡ Some Full
    → full ≡ true
no_scan true busy none full is = absurd cc
no_scan false true none full is = absurd cc
no_scan false false true full is = absurd cc
no_scan false false false true is = refl
no_scan false false false false is = absurd cc

no_hand : (stranger down busy none full : Bool)
    → first_refusal ((stranger, Stranger) ∷ (down, BusDown) ∷ (busy, Busy) ∷ (none, NothingReady) ∷ (full, Full) ∷ [])
    ≡ Some Full
    → full ≡ true
no_hand true down busy none full is = absurd cc
no_hand false true busy none full is = absurd cc
no_hand false false true none full is = absurd cc
no_hand false false false true full is = absurd cc
no_hand false false false false true is = refl
no_hand false false false false false is = absurd cc

no_frame : (stranger down kept full : Bool)
    → first_refusal ((stranger, Stranger) ∷ (down, BusDown) ∷ (kept && full, Full) ∷ []) ≡ Some Full → full ≡ true
no_frame true down kept full is = absurd cc
no_frame false true kept full is = absurd cc
no_frame false false true true is = refl
no_frame false false true false is = absurd cc
no_frame false false false full is = absurd cc

stuck_is_full : (p : Shown) → IsStuck p → is_full p ≡ true
stuck_is_full p stuck =
    ⊎_elim (λ taken. no_scan (has_no_worker p 0) (is_some (scan 0 p.history))
    (none_free p.plant p.history (length p.plant.plan.tasks)) (is_full p) taken)
    (λ bus. ⊎_elim (λ handed. no_hand (has_no_bus p bus.0) (is_down bus.0 p.history) (is_some (hand bus.0 p.history))
    (not (nat_lt 0 (length (handouts p.plant bus.0 p.history)))) (is_full p) handed)
    (λ heard. no_frame (has_no_bus p bus.0) (is_down bus.0 p.history) (not (is_reserved (Bus bus.0) p)) (is_full p)
    heard) bus.1) stuck

no_tick : (back kept full : Bool) (refusal : CallRefusal)
    → first_refusal ((back, ClockBack) ∷ (kept && full, Full) ∷ []) ≡ Some refusal → (full ≡ true) ⊎ (back ≡ true)
no_tick true kept full refusal is = inr refl
no_tick false true true refusal is = inl refl
no_tick false true false refusal is = absurd cc
no_tick false false full refusal is = absurd cc

the_only : {X : Type 0} (front : List X) (x y : X) (more : List X) → x ∷ [] ≡ front ++ y ∷ more → y ≡ x
the_only [] x y more is = cc
the_only (z ∷ []) x y more is = absurd cc
the_only (z ∷ w ∷ front) x y more is = absurd cc

refused_moment : (p : Shown) (m : ℕ) (first : Happening) → first ≡ Tick m → IsRefusedMoment first p
    → (is_full p ≡ true) ⊎ (nat_lt m (moment p.history) ≡ true)
refused_moment p m first is refused =
    let tick = subst (λ (h : Happening). IsRefusedMoment h p) is refused in
    no_tick (nat_lt m (moment p.history)) (not (is_reserved Clock p)) (is_full p) tick.0 tick.1

refused_tick : (p : Shown) (m : ℕ) (done rest : List Happening) → Tick m ∷ [] ≡ done ++ rest → IsRefused rest p
    → (is_full p ≡ true) ⊎ (nat_lt m (moment p.history) ≡ true)
refused_tick p m done [] order refused = absurd refused
refused_tick p m done (first ∷ more) order refused =
    refused_moment p m first (the_only done (Tick m) first more order) refused

-- a play of one tick ends at its limit where the history is full or the clock is past that tick
pub at_limit : (all : List Happening) (m : ℕ) (s t : Stage) (ending : Ending) → all ≡ Tick m ∷ []
    → IsPlayedTo ending all s t → ending ≡ Limit
    → (is_full t.plant ≡ true) ⊎ (m < moment t.plant.history)
at_limit all m s t ending one played limit =
    let ends = subst (λ (e : Ending). IsPlayedTo e all s t) limit played in
    ⊎_elim (λ stuck. inl (stuck_is_full t.plant stuck))
    (λ refused. ⊎_elim inl (λ past. inr (ltb-true m (moment t.plant.history) past))
    (refused_tick t.plant m (reverse ends.1.done) ends.0 (sym one ∙ ends.1.order) refused)) ends.2
