-- What calls refuse.
use Rattle.std.proofs.Common.{◌≡◌, ◌<◌, ℕ, Bool, true, false, not, List, [], ◌∷◌, length, Option, Some, None, Result, Ok, Err}
use Rattle.std.proofs.Common.{refl, ap, sym, ◌∙◌, arith}
use Rattle.std.proofs.lemmas.Grind.{common_steps}
use Rattle.std.specs.Prelude.{nat_lt, is_some}
use Rattle.plantevents.specs.Histories.{hand, is_down}
use Rattle.plantevents.specs.Waiting.{Handout, handouts}
use Rattle.plant.specs.declared.refusal.CallRefusal.{CallRefusal}
use Rattle.plant.specs.declared.refusal.CallRefusal.TheVariants.{Stranger, Busy, BusDown, NothingReady, Full}
use Rattle.plant.specs.Refusals.{Case, GivesFirst, first_refusal, up_cases, hand_cases}
use Rattle.plant.specs.Shown.{Shown, is_full}

-- the first case that holds is what is answered
pub refused : {A : Type 0} (cases : List Case) (refusal : CallRefusal) (given : Result A CallRefusal)
    → GivesFirst cases given → first_refusal cases ≡ Some refusal → given ≡ Err refusal
refused cases refusal (Ok x) gives first = absurd (cc)
refused cases refusal (Err other) gives first =
    let same : other ≡ refusal = cc in ap (λ (r : CallRefusal). Err r) same

-- where a case holds, nothing is done
pub not_done : {A : Type 0} (cases : List Case) (refusal : CallRefusal) (done : A)
    → GivesFirst cases (Ok done) → ¬ (first_refusal cases ≡ Some refusal)
not_done cases refusal done gives first = absurd (cc)

-- what is answered is the first case that holds
pub gave : {A : Type 0} (cases : List Case) (refusal : CallRefusal) (given : Result A CallRefusal)
    → GivesFirst cases given → given ≡ Err refusal → first_refusal cases ≡ Some refusal
gave cases refusal (Ok x) gives is = absurd (cc)
gave cases refusal (Err other) gives is =
    let same : other ≡ refusal = cc in gives ∙ ap (λ (r : CallRefusal). Some r) same

pub below : (a b : ℕ) → a < b → nat_lt a b ≡ true
below a b lt = grind (arith, common_steps)

-- ---- coming up

pub is_not_down : (p : Shown) → 0 < p.plant.plan.buses → is_down 0 p.history ≡ false
    → first_refusal (up_cases p 0) ≡ Some NothingReady
is_not_down p known up = rw (below 0 p.plant.plan.buses known, up) refl

full_last : (stranger up : Bool) → ¬ (first_refusal ((stranger, Stranger) ∷ (up, NothingReady) ∷ (true, Full) ∷ []) ≡ None)
full_last true up is = absurd (cc)
full_last false true is = absurd (cc)
full_last false false is = absurd (cc)

pub has_no_place : (p : Shown) → is_full p ≡ true → ¬ (first_refusal (up_cases p 0) ≡ None)
has_no_place p full is =
    full_last (not (nat_lt 0 p.plant.plan.buses)) (not (is_down 0 p.history))
    (ap (λ (f : Bool). first_refusal ((not (nat_lt 0 p.plant.plan.buses), Stranger)
    ∷ (not (is_down 0 p.history), NothingReady) ∷ (f, Full) ∷ [])) (sym full)
    ∙ is)

-- ---- handing out

pub has_nothing : (p : Shown) (b : ℕ) → b < p.plant.plan.buses → is_down b p.history ≡ false
    → hand b p.history ≡ None → handouts p.plant b p.history ≡ []
    → first_refusal (hand_cases p b) ≡ Some NothingReady
has_nothing p b known up idle none = rw (below b p.plant.plan.buses known, up, idle, none) refl

pub down_first : (p : Shown) → 0 < p.plant.plan.buses → is_down 0 p.history ≡ true
    → first_refusal (hand_cases p 0) ≡ Some BusDown
down_first p known down = rw (below 0 p.plant.plan.buses known, down) refl

nothing_fourth : (stranger down busy nothing full : Bool)
    → first_refusal ((stranger, Stranger) ∷ (down, BusDown) ∷ (busy, Busy) ∷ (nothing, NothingReady) ∷ (full, Full) ∷ [])
    ≡ Some NothingReady → nothing ≡ true
nothing_fourth stranger down busy true full is = refl
nothing_fourth true down busy false full is = absurd (cc)
nothing_fourth false true busy false full is = absurd (cc)
nothing_fourth false false true false full is = absurd (cc)
nothing_fourth false false false false true is = absurd (cc)
nothing_fourth false false false false false is = absurd (cc)

none_there : (xs : List Handout) → not (nat_lt 0 (length xs)) ≡ true → xs ≡ []
none_there [] is = refl
none_there (x ∷ xs) is = absurd (let more : nat_lt 0 (length (x ∷ xs)) ≡ true = below 0 (length (x ∷ xs)) (omega arith) in cc)

-- nothing was to be handed out
pub was_nothing : (p : Shown) (b : ℕ) → first_refusal (hand_cases p b) ≡ Some NothingReady
    → handouts p.plant b p.history ≡ []
was_nothing p b is =
    none_there (handouts p.plant b p.history)
    (nothing_fourth (not (nat_lt b p.plant.plan.buses)) (is_down b p.history) (is_some (hand b p.history))
    (not (nat_lt 0 (length (handouts p.plant b p.history)))) (is_full p) is)
