-- How a refusal of the plant is passed on, and that there is none where a place is kept back.
use Rattle.std.proofs.Common.{◌≡◌, ℕ, ◌<◌, ◌≤◌, Bool, true, false, not, List, [], ◌∷◌, None, Some, Err, refl}
use Rattle.std.proofs.Common.{true≢false, sym, ap, ◌∙◌, subst, arith}
use Rattle.std.proofs.lemmas.Bool.{lt-ltb, le-ltb}
use Rattle.std.proofs.lemmas.Result.{err_from_is_err_and}
use Rattle.std.specs.Prelude.{Result, ◌&&◌, nat_lt, IsErrAnd}
use Rattle.plantevents.specs.declared.role.Role.{Role}
use Rattle.plantevents.specs.declared.role.Role.TheVariants.{Bus, Clock}
use Rattle.plantevents.specs.Histories.{moment, is_down}
use Rattle.plantevents.specs.Parts.{part, shown_moment, shown_down}
use Rattle.plant.specs.declared.refusal.CallError.{CallError}
use Rattle.plant.specs.declared.refusal.CallRefusal.{CallRefusal}
use Rattle.plant.specs.declared.refusal.CallRefusal.TheVariants.{ClockBack, Stranger, NothingReady, BusDown, Full}
use Rattle.plant.specs.Refusals.{Case, GivesFirstOrMemory, first_refusal, tick_cases, heard_cases, hand_cases}
use Rattle.plant.specs.Refusals.{take_cases, down_cases, up_cases, has_no_bus}
use Rattle.plant.specs.Shown.{Shown, is_reserved, is_full}
use Rattle.plantreceipts.specs.Receipts.{ShareParts, IsRole, whole}
use Rattle.plantlock.specs.Answers.{IsNotUp, IsUnheard}

pub error_as : {A E : Type 0} → (result : Result A E) (error : E) → IsErrAnd result (λ e. e ≡ error)
    → result ≡ Err error
error_as result error is = let e = err_from_is_err_and result is in e.1 ∙ ap Err e.2

-- ---- the clock

tick_free : (back reserved full : Bool) (refusal : CallRefusal)
    → first_refusal ((back, ClockBack) ∷ (not reserved && full, Full) ∷ []) ≡ Some refusal → back ≡ false
    → reserved ≡ true → ⊥
tick_free true reserved full refusal is late place = true≢false late
tick_free false true full refusal is late place = cc
tick_free false false full refusal is late place = true≢false (sym place)

pub tick_accepted : (p : Shown) (s : ShareParts) (m : ℕ) (refusal : CallRefusal) → s.role ≡ Clock
    → (whole s ≡ part s.role p.history) × (s.reserved ≡ is_reserved s.role p)
    → moment p.history ≡ shown_moment (part Clock p.history) → first_refusal (tick_cases p m) ≡ Some refusal
    → s.reserved ≡ true → shown_moment (whole s) ≤ m → ⊥
tick_accepted p s m refusal role agree shown is reserved low =
    let same : moment p.history ≡ shown_moment (whole s) =
    shown ∙ ap shown_moment (sym (agree.0 ∙ ap (λ (r : Role). part r p.history) role)) in
    let late : moment p.history ≤ m = omega arith in
    tick_free (nat_lt m (moment p.history)) (is_reserved Clock p) (is_full p) refusal is
    (le-ltb m (moment p.history) late)
    (ap (λ (r : Role). is_reserved r p) (sym role) ∙ (sym agree.1 ∙ reserved))

-- ---- a bus

pub bus_known : (start p : Shown) (role : Role) (b : ℕ) → role ≡ Bus b → IsRole start.plant role
    → p.plant ≡ start.plant → b < p.plant.plan.buses
bus_known start p role b is known same =
    let k : IsRole start.plant (Bus b) = subst (λ (r : Role). IsRole start.plant r) is known in
    rw same k.0

down_shown : (p : Shown) (s : ShareParts) (b : ℕ) → s.role ≡ Bus b → whole s ≡ part s.role p.history
    → is_down b p.history ≡ shown_down (part (Bus b) p.history) → is_down b p.history ≡ shown_down (whole s)
down_shown p s b role agree shown =
    shown ∙ ap shown_down (sym (agree ∙ ap (λ (r : Role). part r p.history) role))

frame_free : (nobody down reserved full : Bool) (refusal : CallRefusal)
    → first_refusal ((nobody, Stranger) ∷ (down, BusDown) ∷ (not reserved && full, Full) ∷ []) ≡ Some refusal
    → nobody ≡ false → down ≡ false → reserved ≡ true → ⊥
frame_free true down reserved full refusal is known up place = true≢false known
frame_free false true reserved full refusal is known up place = true≢false up
frame_free false false true full refusal is known up place = cc
frame_free false false false full refusal is known up place = true≢false (sym place)

pub frame_accepted : (p : Shown) (s : ShareParts) (b : ℕ) (refusal : CallRefusal) → s.role ≡ Bus b
    → (whole s ≡ part s.role p.history) × (s.reserved ≡ is_reserved s.role p)
    → is_down b p.history ≡ shown_down (part (Bus b) p.history) → b < p.plant.plan.buses
    → first_refusal (heard_cases p b) ≡ Some refusal → s.reserved ≡ true → shown_down (whole s) ≡ false → ⊥
frame_accepted p s b refusal role agree shown known is reserved up =
    frame_free (has_no_bus p b) (is_down b p.history) (is_reserved (Bus b) p) (is_full p) refusal is
    (ap not (lt-ltb b p.plant.plan.buses known)) (down_shown p s b role agree.0 shown ∙ up)
    (ap (λ (r : Role). is_reserved r p) (sym role) ∙ (sym agree.1 ∙ reserved))

frame_refused : (nobody down reserved full : Bool) (refusal : CallRefusal) (s : ShareParts)
    → first_refusal ((nobody, Stranger) ∷ (down, BusDown) ∷ (not reserved && full, Full) ∷ []) ≡ Some refusal
    → nobody ≡ false → down ≡ shown_down (whole s) → IsUnheard (whole s) refusal
frame_refused true down reserved full refusal s is known shown = absurd (true≢false known)
frame_refused false true reserved full refusal s is known shown =
    let why : BusDown ≡ refusal = cc in
    subst (λ (r : CallRefusal). IsUnheard (whole s) r) why (sym shown)
frame_refused false false true full refusal s is known shown = absurd (cc)
frame_refused false false false true refusal s is known shown =
    let why : Full ≡ refusal = cc in
    subst (λ (r : CallRefusal). IsUnheard (whole s) r) why refl
frame_refused false false false false refusal s is known shown = absurd (cc)

pub unheard : (p : Shown) (s : ShareParts) (b : ℕ) (refusal : CallRefusal) → s.role ≡ Bus b
    → whole s ≡ part s.role p.history → is_down b p.history ≡ shown_down (part (Bus b) p.history)
    → b < p.plant.plan.buses → first_refusal (heard_cases p b) ≡ Some refusal
    → IsUnheard (whole s) refusal
unheard p s b refusal role agree shown known is =
    frame_refused (has_no_bus p b) (is_down b p.history) (is_reserved (Bus b) p) (is_full p) refusal s is
    (ap not (lt-ltb b p.plant.plan.buses known)) (down_shown p s b role agree shown)

down_free : (nobody down : Bool) (refusal : CallRefusal)
    → first_refusal ((nobody, Stranger) ∷ (down, BusDown) ∷ []) ≡ Some refusal → nobody ≡ false → down ≡ false → ⊥
down_free true down refusal is known up = true≢false known
down_free false true refusal is known up = true≢false up
down_free false false refusal is known up = cc

pub down_accepted : (p : Shown) (s : ShareParts) (b : ℕ) (refusal : CallRefusal) → s.role ≡ Bus b
    → whole s ≡ part s.role p.history → is_down b p.history ≡ shown_down (part (Bus b) p.history)
    → b < p.plant.plan.buses → first_refusal (down_cases p b) ≡ Some refusal → shown_down (whole s) ≡ false → ⊥
down_accepted p s b refusal role agree shown known is up =
    down_free (has_no_bus p b) (is_down b p.history) refusal is (ap not (lt-ltb b p.plant.plan.buses known))
    (down_shown p s b role agree shown ∙ up)

abbrev second_holds : List Case → Bool
second_holds (c ∷ d ∷ more) = d.0
second_holds (c ∷ []) = false
second_holds [] = false

second_fails : (cases : List Case) → first_refusal cases ≡ None → second_holds cases ≡ false
second_fails [] is = refl
second_fails (c ∷ []) is = refl
second_fails ((true, r) ∷ d ∷ more) is = absurd (cc)
second_fails ((false, r) ∷ (true, s) ∷ more) is = absurd (cc)
second_fails ((false, r) ∷ (false, s) ∷ more) is = refl

-- of a bus for which a frame may be heard, or to which something is handed
pub heard_up : (p : Shown) (s : ShareParts) (b : ℕ) → s.role ≡ Bus b → whole s ≡ part s.role p.history
    → is_down b p.history ≡ shown_down (part (Bus b) p.history) → first_refusal (heard_cases p b) ≡ None
    → shown_down (whole s) ≡ false
heard_up p s b role agree shown is =
    sym (down_shown p s b role agree shown) ∙ second_fails (heard_cases p b) is

pub hand_up : (p : Shown) (s : ShareParts) (b : ℕ) → s.role ≡ Bus b → whole s ≡ part s.role p.history
    → is_down b p.history ≡ shown_down (part (Bus b) p.history) → first_refusal (hand_cases p b) ≡ None
    → shown_down (whole s) ≡ false
hand_up p s b role agree shown is =
    sym (down_shown p s b role agree shown) ∙ second_fails (hand_cases p b) is

-- of a bus that comes up
was_down : (down : Bool) → not down ≡ false → down ≡ true
was_down true is = refl
was_down false is = absurd (true≢false is)

pub up_down : (p : Shown) (s : ShareParts) (b : ℕ) → s.role ≡ Bus b → whole s ≡ part s.role p.history
    → is_down b p.history ≡ shown_down (part (Bus b) p.history) → first_refusal (up_cases p b) ≡ None
    → shown_down (whole s) ≡ true
up_down p s b role agree shown is =
    sym (down_shown p s b role agree shown) ∙ was_down (is_down b p.history) (second_fails (up_cases p b) is)

up_refused : (nobody down full : Bool) (refusal : CallRefusal) (s : ShareParts)
    → first_refusal ((nobody, Stranger) ∷ (not down, NothingReady) ∷ (full, Full) ∷ []) ≡ Some refusal
    → nobody ≡ false → down ≡ shown_down (whole s) → IsNotUp (whole s) refusal
up_refused true down full refusal s is known shown = absurd (true≢false known)
up_refused false false full refusal s is known shown =
    let why : NothingReady ≡ refusal = cc in
    subst (λ (r : CallRefusal). IsNotUp (whole s) r) why (sym shown)
up_refused false true true refusal s is known shown =
    let why : Full ≡ refusal = cc in
    subst (λ (r : CallRefusal). IsNotUp (whole s) r) why refl
up_refused false true false refusal s is known shown = absurd (cc)

pub not_up : (p : Shown) (s : ShareParts) (b : ℕ) (refusal : CallRefusal) → s.role ≡ Bus b
    → whole s ≡ part s.role p.history → is_down b p.history ≡ shown_down (part (Bus b) p.history)
    → b < p.plant.plan.buses → first_refusal (up_cases p b) ≡ Some refusal
    → IsNotUp (whole s) refusal
not_up p s b refusal role agree shown known is =
    up_refused (has_no_bus p b) (is_down b p.history) (is_full p) refusal s is
    (ap not (lt-ltb b p.plant.plan.buses known)) (down_shown p s b role agree shown)

-- ---- a scan worker

pub take_gives : {A : Type 0} → (p q : Shown) (w : ℕ) (result : Result A CallError) → p ≡ q
    → GivesFirstOrMemory (take_cases p w) result → GivesFirstOrMemory (take_cases q w) result
take_gives p q w result is = subst (λ (x : Shown). GivesFirstOrMemory (take_cases x w) result) is
