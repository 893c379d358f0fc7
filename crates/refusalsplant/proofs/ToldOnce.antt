-- What an observer was told, and how often.
use Rattle.std.proofs.Common.{◌≡◌, ℕ, suc, ◌+◌, List, [], ◌∷◌, ◌++◌, length, length-append, Option, Some, Result, Ok, Err}
use Rattle.std.proofs.Common.{OnOk, ap, arith, subst}
use Rattle.plantevents.specs.declared.event.Event.{Event}
use Rattle.plant.specs.Shown.{Shown}
use Rattle.plantdriving.specs.Ticks.{TicksAt}
use Rattle.plantdriving.specs.declared.halt.Halt.{Halt}
use Rattle.plantdriving.specs.declared.happened.Told.{Told}
use Rattle.plantdriving.specs.Tellings.{AreTold, HasToldAll, TellsEach, grown_by}
use Rattle.plantdriving.proofs.Tellings.{told_in_all}

-- where it ended well, as many were told as events came
pub as_many : {A : Type 0} (p q : Shown) (before after : Option (List Told)) (result : Result A Halt)
    → before ≡ Some [] → TellsEach p q before after result
    → OnOk result ((told : List Told) × (after ≡ Some told) × (length told + length p.history ≡ length q.history))
as_many p q before after (Ok done) none all =
    told_in_all p.history q.history after
    (subst (λ (x : Option (List Told)). HasToldAll p.history q.history x after) none all)
as_many p q before after (Err halt) none all = tt

-- where one event came, it was told with its place
one_told : (h g events : List Event) (tellings : List Told) (after : Option (List Told)) → g ≡ events ++ h
    → after ≡ grown_by tellings (Some []) → AreTold h events tellings → length g ≡ suc (length h)
    → (told : Told) × (after ≡ Some (told ∷ [])) × (told.place ≡ length h)
one_told h g [] tellings after grew told each long =
    let same = ap (λ (x : List Event). length x) grew in absurd (omega arith)
one_told h g (e ∷ []) [] after grew told each long = absurd each
one_told h g (e ∷ []) (t ∷ []) after grew told each long = (t, told, each.0.0)
one_told h g (e ∷ []) (t ∷ u ∷ ts) after grew told each long = absurd each.1
one_told h g (e ∷ f ∷ more) tellings after grew told each long =
    let same = ap (λ (x : List Event). length x) grew in
    let both = length-append more h in
    absurd (omega arith)

pub tick_at : {A : Type 0} (m : ℕ) (p q : Shown) (before after : Option (List Told)) (result : Result A Halt)
    → before ≡ Some [] → TicksAt m p q result → TellsEach p q before after result
    → OnOk result ((told : Told) × (after ≡ Some (told ∷ [])) × (told.place ≡ length p.history))
tick_at m p q before after (Ok done) none ticks all =
    let told : HasToldAll p.history q.history (Some []) after =
    subst (λ (x : Option (List Told)). HasToldAll p.history q.history x after) none all in
    one_told p.history q.history told.events told.tellings after told.history told.told told.each
    (ap (λ (x : Shown). length x.history) ticks.1)
tick_at m p q before after (Err halt) none ticks all = tt
