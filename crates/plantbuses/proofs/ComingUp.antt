-- What is kept of the levels that are owed, once a bus came up again.
use Rattle.std.proofs.Common.{◌≡◌, ◌≢◌, ⊎_elim, eqb, ℕ, ◌<◌, Bool, true, false, List, ◌∷◌, length, Option}
use Rattle.std.proofs.Common.{refl, sym, ap, ◌∙◌, subst, length-set}
use Rattle.std.proofs.lemmas.Bool.{ne_eqb}
use Rattle.std.proofs.lemmas.Bool.Decides.{eqb_tells}
use Rattle.std.proofs.lemmas.List.{get_or-set_same, get_or-set_other}
use Rattle.std.specs.Prelude.{if◌then◌else◌, slice_set, is_some}
use Rattle.busqueue.specs.Queues.{class_number}
use Rattle.plantevents.specs.declared.event.Event.{Event}
use Rattle.plantevents.specs.declared.event.Event.TheVariants.{Up}
use Rattle.plantevents.specs.Plants.{Plant}
use Rattle.plantevents.specs.Waiting.{OwedLevel, handed_level}
use Rattle.plantbuses.specs.declared.owed.OwedLevels.{OwedLevels}
use Rattle.plantbuses.specs.AddressSets.{one_if}
use Rattle.plantbuses.specs.OwedSteps.{OwedFollows, OwedFollow, owed_on, no_levels}
use Rattle.plantbuses.proofs.OwedChanges.{owed_stays}

-- the other buses owe what they owed
other_owes : (p : Plant) (b c : ℕ) (h : List Event) (levels : OwedLevels) → c ≢ b → OwedFollows p c h levels
    → OwedFollows p c (Up b ∷ h) levels
other_owes p b c h levels ne follows class a low =
    follows class a low
    ∙ sym (ap (λ (o : Option OwedLevel). one_if (is_some o))
    (owed_stays p c (class_number class) a (Up b) h (λ g at. refl)
    (ap (λ (s : Bool). if s then 255 else handed_level c a h) (ne_eqb b c (λ e. ne (sym e))))))

pub owed_up : (p : Plant) (b : ℕ) (h : List Event) (owed : List OwedLevels) (new : OwedLevels) → b < length owed
    → OwedFollows p b (Up b ∷ h) new → OwedFollow p h owed → OwedFollow p (Up b ∷ h) (slice_set owed b new)
owed_up p b h owed new lt made follows = (
  length-set owed b new ∙ follows.0,
  λ c below.
      ⊎_elim
      (λ (k : (eqb c b ≡ true) × (c ≡ b)).
      subst (λ (n : ℕ). OwedFollows p n (Up b ∷ h) (owed_on (slice_set owed b new) n)) (sym k.1)
      (subst (OwedFollows p b (Up b ∷ h)) (sym (get_or-set_same owed b new no_levels lt)) made))
      (λ (k : (eqb c b ≡ false) × (c ≢ b)).
      subst (OwedFollows p c (Up b ∷ h)) (sym (get_or-set_other owed b c new no_levels k.1))
      (other_owes p b c h (owed_on owed c) k.1 (follows.1 c below)))
      (eqb_tells c b),
)
