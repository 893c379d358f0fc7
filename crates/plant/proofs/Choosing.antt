-- Whether any task is free, by the one that is chosen.
use Rattle.std.proofs.Common.{◌≡◌, ◌≢◌, ⊎_elim, eqb, ℕ, zero, suc, ◌<◌, Bool, true, false, not, ◌&&◌, List}
use Rattle.std.proofs.Common.{Option, Some, None, refl, ap, ◌∙◌, arith}
use Rattle.std.proofs.lemmas.Bool.Decides.{eqb_tells}
use Rattle.std.specs.Prelude.{is_some}
use Rattle.plantevents.specs.declared.event.Event.{Event}
use Rattle.plantevents.specs.Plants.{Plant}
use Rattle.plantevents.specs.Choices.{Chooses, is_free, rank}
use Rattle.plant.specs.Refusals.{none_free}

and_false : (b : Bool) → (b && false) ≡ false
and_false true = refl
and_false false = refl

all_busy : (p : Plant) (h : List Event) (n : ℕ) → ((t : ℕ) → t < n → is_free p h t ≡ false) → none_free p h n ≡ true
all_busy p h zero busy = refl
all_busy p h (suc n) busy =
    ap (λ b. not b && none_free p h n) (busy n (omega arith)) ∙ all_busy p h n (λ t lt. busy t (omega arith))

one_free : (p : Plant) (h : List Event) (n t : ℕ) → t < n → is_free p h t ≡ true → none_free p h n ≡ false
one_free p h zero t lt free = absurd (omega arith)
one_free p h (suc n) t lt free =
    ⊎_elim
    (λ (k : (eqb n t ≡ true) × (n ≡ t)). ap (λ m. not (is_free p h m) && none_free p h n) k.1
    ∙ ap (λ b. not b && none_free p h n) free)
    (λ (k : (eqb n t ≡ false) × (n ≢ t)). ap (λ b. not (is_free p h n) && b)
    (one_free p h n t (omega (arith, k.1)) free)
    ∙ and_false (not (is_free p h n)))
    (eqb_tells n t)

pub none_free_of : (p : Plant) (h : List Event) (n : ℕ) (chosen : Option ℕ) → Chooses (is_free p h) (rank p h) n chosen
    → none_free p h n ≡ not (is_some chosen)
none_free_of p h n None busy = all_busy p h n busy
none_free_of p h n (Some t) first = one_free p h n t first.known first.free
