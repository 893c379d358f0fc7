-- What is known where nothing is handed out: there is nothing to be sent, the bus is down, or the history is full.
use Rattle.std.proofs.Common.{◌≡◌, ◌≢◌, ◌⊎◌, inl, inr, ⊎_elim, ℕ, ◌<◌, Bool, true, false, not, List, [], ◌∷◌, length}
use Rattle.std.proofs.Common.{Some, Ok, Err, true≢false, refl, sym, ap, ◌∙◌, subst, arith}
use Rattle.std.proofs.lemmas.Bool.{lt-ltb}
use Rattle.std.specs.Prelude.{Result, is_some, nat_lt, IfErr, ◌&&◌}
use Rattle.buslink.specs.BusLog.{BusLog}
use Rattle.plantevents.specs.declared.role.Role.TheVariants.{Bus}
use Rattle.plantevents.specs.Histories.{scan, hand, is_down}
use Rattle.plantevents.specs.Waiting.{handouts}
use Rattle.plantdriving.specs.declared.halt.Halt.{Halt}
use Rattle.plant.specs.declared.refusal.CallRefusal.{CallRefusal}
use Rattle.plant.specs.declared.refusal.CallRefusal.TheVariants.{NothingReady, Stranger, Busy, BusDown, Full}
use Rattle.plant.specs.declared.refusal.CallError.{CallError}
use Rattle.plant.specs.declared.refusal.CallError.TheVariants as errors
use Rattle.plant.specs.Refusals.{GivesFirstOrMemory, first_refusal, hand_cases, heard_cases, take_cases}
use Rattle.plant.specs.Refusals.{has_no_bus, has_no_worker, none_free}
use Rattle.plant.specs.Shown.{Shown, is_full, is_reserved}
use Rattle.plantdriving.specs.declared.halt.Halt.TheVariants.{Refused, Memory, Unwritten}
use Rattle.plantdriving.specs.Driven.{CannotGoOn, IsStuck, SendsNext}
use Rattle.plantdriving.specs.Halts.{IsHaltOf}
use Rattle.plantdriving.specs.Quiet.{HasNoFrame, HasNoHandout}
use Rattle.plantdriving.specs.TurnSteps.{IsIdleOr, IsTold, Tells}
use Rattle.plantdriving.specs.Open.{HasNothingOpen}

-- the refusals of a hand, in their order
abbrev first_of_five : Bool → Bool → Bool → Bool → Bool → CallRefusal → Type 0
first_of_five nobody down busy none full refusal =
    first_refusal ((nobody, Stranger) ∷ (down, BusDown) ∷ (busy, Busy) ∷ (none, NothingReady) ∷ (full, Full) ∷ [])
    ≡ Some refusal

idle_case : (nobody down busy none full : Bool) (refusal : CallRefusal)
    → first_of_five nobody down busy none full refusal → (refusal ≡ NothingReady) ⊎ (refusal ≡ BusDown)
    → (down ≡ true) ⊎ (none ≡ true)
idle_case true down busy none full refusal is idle =
    absurd (⊎_elim (λ (e : refusal ≡ NothingReady). cc) (λ (e : refusal ≡ BusDown). cc) idle)
idle_case false true busy none full refusal is idle = inl refl
idle_case false false true none full refusal is idle =
    absurd (⊎_elim (λ (e : refusal ≡ NothingReady). cc) (λ (e : refusal ≡ BusDown). cc) idle)
idle_case false false false true full refusal is idle = inr refl
idle_case false false false false true refusal is idle =
    absurd (⊎_elim (λ (e : refusal ≡ NothingReady). cc) (λ (e : refusal ≡ BusDown). cc) idle)
idle_case false false false false false refusal is idle = absurd (cc)

full_case : (nobody down busy none full : Bool) (refusal : CallRefusal)
    → first_of_five nobody down busy none full refusal → nobody ≡ false → busy ≡ false → refusal ≢ NothingReady
    → refusal ≢ BusDown → (refusal ≡ Full) × (full ≡ true)
full_case true down busy none full refusal is known free ready up = absurd (true≢false known)
full_case false true busy none full refusal is known free ready up = absurd (up (cc))
full_case false false true none full refusal is known free ready up = absurd (true≢false free)
full_case false false false true full refusal is known free ready up = absurd (ready (cc))
full_case false false false false true refusal is known free ready up = (cc, refl)
full_case false false false false false refusal is known free ready up = absurd (cc)

none_waits : {X : Type 0} (xs : List X) → not (nat_lt 0 (length xs)) ≡ true → xs ≡ []
none_waits [] is = refl
none_waits (x ∷ xs) is =
    let some : 0 < length (x ∷ xs) = omega arith in
    absurd (true≢false (sym is ∙ ap not (lt-ltb 0 (length (x ∷ xs)) some)))

-- nothing was done, and this is why
idle_tells : (p q : Shown) (b : ℕ) (refusal : CallRefusal) → q ≡ p → first_refusal (hand_cases p b) ≡ Some refusal
    → (refusal ≡ NothingReady) ⊎ (refusal ≡ BusDown) → (q.history ≡ p.history) × HasNoHandout p b
idle_tells p q b refusal same is idle = (
  ap (λ (x : Shown). x.history) same,
  ⊎_elim (λ (down : is_down b p.history ≡ true). inl down)
      (λ (none : not (nat_lt 0 (length (handouts p.plant b p.history))) ≡ true).
      inr (none_waits (handouts p.plant b p.history) none))
      (idle_case (has_no_bus p b) (is_down b p.history) (is_some (hand b p.history))
      (not (nat_lt 0 (length (handouts p.plant b p.history)))) (is_full p) refusal is idle),
)

-- it cannot go on, since the history is full
idle_stops : (p q : Shown) (b : ℕ) (refusal : CallRefusal) → q ≡ p → b < p.plant.plan.buses → HasNothingOpen p
    → first_refusal (hand_cases p b) ≡ Some refusal → refusal ≢ NothingReady → refusal ≢ BusDown
    → CannotGoOn q (Refused refusal)
idle_stops p q b refusal same known idle is ready up =
    let full = full_case (has_no_bus p b) (is_down b p.history) (is_some (hand b p.history))
    (not (nat_lt 0 (length (handouts p.plant b p.history)))) (is_full p) refusal is
    (ap not (lt-ltb b p.plant.plan.buses known)) (ap is_some (idle.no_hand b known)) ready up in
    subst (λ (x : Shown). (refusal ≡ Full) × IsStuck x) (sym same) (full.0, inr (b, inl (is ∙ ap Some full.0)))

same_refusal : (one two : CallRefusal) → Refused one ≡ Refused two → one ≡ two
same_refusal one two is = cc

pub halted_tells : (p q : Shown) (b : ℕ) (log after : BusLog) (halt : Halt) (result : Result Bool Halt)
    → SendsNext {A = Unit} p b log q after (Err halt) → IsIdleOr halt result → Tells p q (HasNoHandout p b) result
halted_tells p q b log after halt (Ok true) is idle = absurd (true≢false idle.0)
halted_tells p q b log after (Refused refusal) (Ok false) is idle =
    idle_tells p q b refusal is.1.plant is.0
    (⊎_elim (λ (e : Refused refusal ≡ Refused NothingReady). inl (same_refusal refusal NothingReady e))
    (λ (e : Refused refusal ≡ Refused BusDown). inr (same_refusal refusal BusDown e)) idle.1)
halted_tells p q b log after Memory (Ok false) is idle =
    absurd (⊎_elim (λ (e : Memory ≡ Refused NothingReady). cc) (λ (e : Memory ≡ Refused BusDown). cc) idle.1)
halted_tells p q b log after (Unwritten error) (Ok false) is idle =
    absurd (⊎_elim (λ (e : Unwritten error ≡ Refused NothingReady). cc)
    (λ (e : Unwritten error ≡ Refused BusDown). cc) idle.1)
halted_tells p q b log after halt (Err other) is idle = tt

pub halted_stops : (p q : Shown) (b : ℕ) (log after : BusLog) (halt : Halt) (result : Result Bool Halt)
    → b < p.plant.plan.buses → HasNothingOpen p → SendsNext {A = Unit} p b log q after (Err halt) → IsIdleOr halt result
    → IfErr result (CannotGoOn q)
halted_stops p q b log after halt (Ok any) known none is idle = tt
halted_stops p q b log after (Refused refusal) (Err other) known none is idle =
    subst (λ (h : Halt). CannotGoOn q h) (sym idle.0)
    (idle_stops p q b refusal is.1.plant known none is.0 (λ e. idle.1 (ap Refused e)) (λ e. idle.2 (ap Refused e)))
halted_stops p q b log after Memory (Err other) known none is idle =
    subst (λ (h : Halt). CannotGoOn q h) (sym idle.0) tt
halted_stops p q b log after (Unwritten error) (Err other) known none is idle =
    subst (λ (h : Halt). CannotGoOn q h) (sym idle.0) tt

-- ---- frames

heard_full : (nobody down kept full : Bool) (refusal : CallRefusal)
    → first_refusal ((nobody, Stranger) ∷ (down, BusDown) ∷ (not kept && full, Full) ∷ []) ≡ Some refusal
    → nobody ≡ false → refusal ≢ BusDown → refusal ≡ Full
heard_full true down kept full refusal is known up = absurd (true≢false known)
heard_full false true kept full refusal is known up = absurd (up (cc))
heard_full false false true full refusal is known up = absurd (cc)
heard_full false false false true refusal is known up = cc
heard_full false false false false refusal is known up = absurd (cc)

hear_case : (nobody down kept full : Bool) (refusal : CallRefusal)
    → first_refusal ((nobody, Stranger) ∷ (down, BusDown) ∷ (not kept && full, Full) ∷ []) ≡ Some refusal
    → (Refused refusal ≡ Refused NothingReady) ⊎ (Refused refusal ≡ Refused BusDown) → down ≡ true
hear_case true down kept full refusal is idle =
    absurd (⊎_elim (λ (e : Refused refusal ≡ Refused NothingReady). cc)
    (λ (e : Refused refusal ≡ Refused BusDown). cc) idle)
hear_case false true kept full refusal is idle = refl
hear_case false false true full refusal is idle = absurd (cc)
hear_case false false false true refusal is idle =
    absurd (⊎_elim (λ (e : Refused refusal ≡ Refused NothingReady). cc)
    (λ (e : Refused refusal ≡ Refused BusDown). cc) idle)
hear_case false false false false refusal is idle = absurd (cc)

-- no frame may be heard, since the bus is down
pub hear_tells : (p q : Shown) (b : ℕ) (log after : BusLog) (refusal : CallRefusal) (result : Result Bool Halt)
    → q ≡ p → first_refusal (heard_cases p b) ≡ Some refusal → IsIdleOr (Refused refusal) result
    → Tells p q (HasNoFrame p b log after) result
hear_tells p q b log after refusal (Ok true) same is idle = absurd (true≢false idle.0)
hear_tells p q b log after refusal (Ok false) same is idle = (
  ap (λ (x : Shown). x.history) same,
  inl (hear_case (has_no_bus p b) (is_down b p.history) (is_reserved (Bus b) p) (is_full p) refusal is idle.1),
)
hear_tells p q b log after refusal (Err other) same is idle = tt

pub hear_stops : (p q : Shown) (b : ℕ) (refusal : CallRefusal) (result : Result Bool Halt) → q ≡ p
    → b < p.plant.plan.buses → first_refusal (heard_cases p b) ≡ Some refusal → IsIdleOr (Refused refusal) result
    → IfErr result (CannotGoOn q)
hear_stops p q b refusal (Ok any) same known is idle = tt
hear_stops p q b refusal (Err other) same known is idle =
    let full = heard_full (has_no_bus p b) (is_down b p.history) (is_reserved (Bus b) p) (is_full p) refusal is
    (ap not (lt-ltb b p.plant.plan.buses known)) (λ e. idle.2 (ap Refused e)) in
    subst (λ (h : Halt). CannotGoOn q h) (sym idle.0)
    (subst (λ (x : Shown). (refusal ≡ Full) × IsStuck x) (sym same) (full, inr (b, inr (is ∙ ap Some full))))

-- ---- scans

take_full : (nobody busy none full : Bool) (refusal : CallRefusal)
    → first_refusal ((nobody, Stranger) ∷ (busy, Busy) ∷ (none, NothingReady) ∷ (full, Full) ∷ []) ≡ Some refusal
    → nobody ≡ false → busy ≡ false → refusal ≢ NothingReady → refusal ≡ Full
take_full true busy none full refusal is known free ready = absurd (true≢false known)
take_full false true none full refusal is known free ready = absurd (true≢false free)
take_full false false true full refusal is known free ready = absurd (ready (cc))
take_full false false false true refusal is known free ready = cc
take_full false false false false refusal is known free ready = absurd (cc)

-- no task is taken, and not since none is ready
pub take_stops : (p q : Shown) (error : CallError) (halt : Halt) → q ≡ p → 0 < p.plant.workers → HasNothingOpen p
    → GivesFirstOrMemory {A = ℕ} (take_cases p 0) (Err error) → ¬ (error ≡ errors.Refused NothingReady)
    → IsHaltOf error halt → CannotGoOn q halt
take_stops p q errors.Memory halt same workers idle given other is =
    subst (λ (h : Halt). CannotGoOn q h) (sym is) tt
take_stops p q (errors.Refused refusal) halt same workers idle given other is =
    let full = take_full (has_no_worker p 0) (is_some (scan 0 p.history))
    (none_free p.plant p.history (length p.plant.plan.tasks)) (is_full p) refusal given
    (ap not (lt-ltb 0 p.plant.workers workers)) (ap is_some (idle.no_scan 0 workers))
    (λ ready. other (ap errors.Refused ready)) in
    subst (λ (h : Halt). CannotGoOn q h) (sym is)
    (subst (λ (x : Shown). (refusal ≡ Full) × IsStuck x) (sym same) (full, inl (given ∙ ap Some full)))

-- ---- observers

pub told_tells : (p q : Shown) (why : Type 0) (result : Result Bool Halt) → IsTold result
    → length p.history < length q.history → Tells p q why result
told_tells p q why (Ok true) told more = more
told_tells p q why (Ok false) told more = absurd (true≢false (sym told))
told_tells p q why (Err halt) told more = tt

pub told_stops : (q : Shown) (result : Result Bool Halt) → IsTold result → IfErr result (CannotGoOn q)
told_stops q (Ok any) told = tt
told_stops q (Err (Unwritten error)) told = tt
told_stops q (Err Memory) told = absurd told
told_stops q (Err (Refused refusal)) told = absurd told

-- ---- a history that is full

full_of_take : (nobody busy none full : Bool)
    → first_refusal ((nobody, Stranger) ∷ (busy, Busy) ∷ (none, NothingReady) ∷ (full, Full) ∷ []) ≡ Some Full
    → full ≡ true
full_of_take true busy none full is = absurd (cc)
full_of_take false true none full is = absurd (cc)
full_of_take false false true full is = absurd (cc)
full_of_take false false false true is = refl
full_of_take false false false false is = absurd (cc)

full_of_hand : (nobody down busy none full : Bool) → first_of_five nobody down busy none full Full → full ≡ true
full_of_hand true down busy none full is = absurd (cc)
full_of_hand false true busy none full is = absurd (cc)
full_of_hand false false true none full is = absurd (cc)
full_of_hand false false false true full is = absurd (cc)
full_of_hand false false false false true is = refl
full_of_hand false false false false false is = absurd (cc)

full_of_heard : (nobody down kept full : Bool)
    → first_refusal ((nobody, Stranger) ∷ (down, BusDown) ∷ (not kept && full, Full) ∷ []) ≡ Some Full → full ≡ true
full_of_heard true down kept full is = absurd (cc)
full_of_heard false true kept full is = absurd (cc)
full_of_heard false false true full is = absurd (cc)
full_of_heard false false false true is = refl
full_of_heard false false false false is = absurd (cc)

-- where a turn is refused for want of a place, the history is full
pub stuck_is_full : (p : Shown) → IsStuck p → is_full p ≡ true
stuck_is_full p (inl one) =
    full_of_take (has_no_worker p 0) (is_some (scan 0 p.history))
    (none_free p.plant p.history (length p.plant.plan.tasks)) (is_full p) one
stuck_is_full p (inr (b, inl hands)) =
    full_of_hand (has_no_bus p b) (is_down b p.history) (is_some (hand b p.history))
    (not (nat_lt 0 (length (handouts p.plant b p.history)))) (is_full p) hands
stuck_is_full p (inr (b, inr hears)) =
    full_of_heard (has_no_bus p b) (is_down b p.history) (is_reserved (Bus b) p) (is_full p) hears
