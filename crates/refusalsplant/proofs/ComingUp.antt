-- A bus that comes up again.
use Rattle.std.proofs.Common.{◌≡◌, ◌≢◌, ◌<◌, ◌+◌, ℕ, Bool, true, false, not, List, [], ◌∷◌, ◌++◌, map, Some}
use Rattle.std.proofs.Common.{refl, ap, sym, subst, arith, lit≤}
use Rattle.std.proofs.lemmas.Bool.{ne_eqb}
use Rattle.std.specs.Prelude.{flat_map, if◌then◌else◌}
use Rattle.ilmachine.specs.Images.{Global}
use Rattle.plantevents.specs.declared.event.Event.{Event}
use Rattle.plantevents.specs.declared.event.Event.TheVariants.{Up}
use Rattle.plantevents.specs.Histories.{is_down}
use Rattle.plantevents.specs.Plants.{Plant, output_at}
use Rattle.plantevents.specs.Variables.{value, whole}
use Rattle.plantevents.specs.Waiting.{Handout, OwedLevel, class_handouts, classes, handouts, level_class, level_handout}
use Rattle.plantevents.specs.Waiting.{owed, request_handout, waiting}
use Rattle.plantevents.specs.ComingUp.{IsOwedAnew}
use Rattle.plantevents.specs.Members.{Has, HasNothing}
use Rattle.plantevents.proofs.ComingUp.{owed_elsewhere}
use Rattle.plantevents.proofs.Having.{has_none}
use Rattle.plant.specs.Shown.{Shown, count_below, grown, used}
use Rattle.plant.proofs.Counting.{count_less}

-- a bus more is up, so a place is kept for its next Down
one_up_more : (p : Shown) → 0 < p.plant.plan.buses → is_down 0 p.history ≡ true
    → count_below (λ b. not (is_down b p.history)) p.plant.plan.buses + 1
    ≡ count_below (λ b. not (is_down b (Up 0 ∷ p.history))) p.plant.plan.buses
one_up_more p known down =
    count_less (λ b. not (is_down b (Up 0 ∷ p.history))) (λ b. not (is_down b p.history)) p.plant.plan.buses 0 known
    refl (ap not down)
    (λ b other. sym (ap (λ (same : Bool). not (if same then false else is_down b p.history))
    (ne_eqb 0 b (λ e. other (sym e)))))

pub two_places : (p : Shown) → 0 < p.plant.plan.buses → is_down 0 p.history ≡ true → used (grown p (Up 0)) ≡ used p + 2
two_places p known down = let more = one_up_more p known down in omega arith

-- ---- what is owed anew

abbrev pub lamp : OwedLevel
lamp = record { address = 5; level = 254 }

pub lamp_anew : (p : Plant) (h : List Event) → output_at p 0 5 ≡ Some 3 → level_class p 3 ≡ 2
    → value p (Global 3) h ≡ Some (whole 254) → IsOwedAnew p 0 2 h lamp
lamp_anew p h located class lit = record {
  address = lit≤ tt;
  global = 3;
  output = located;
  class = class;
  is_value = lit;
  is_level = λ e. omega (arith, e);
}

-- where a level is owed there is something to be handed out
pub has_handout : (p : Plant) (h : List Event) (o : OwedLevel) → Has (owed p 0 2 h) o
    → (handouts p 0 h ≡ [] → (c : ℕ) → Has classes c → HasNothing p 0 h c) → handouts p 0 h ≢ []
has_handout p h o owes nothing = λ none.
    let empty = (nothing none 2 (0, refl)).1 in
    has_none o (subst (λ (levels : List OwedLevel). Has levels o) empty owes)

-- ---- the other buses

alike : (f g : ℕ → List Handout) → f 2 ≡ g 2 → f 3 ≡ g 3 → f 4 ≡ g 4 → f 5 ≡ g 5
    → flat_map f classes ≡ flat_map g classes
alike f g second third fourth fifth = rw (second, third, fourth, fifth) refl

same_class : (p : Plant) (h : List Event) (c : ℕ) → class_handouts p 1 (Up 0 ∷ h) c ≡ class_handouts p 1 h c
same_class p h c =
    ap (λ (levels : List OwedLevel). map (request_handout c) (waiting p 1 c h) ++ map (level_handout c) levels)
    (owed_elsewhere p 0 1 c h (λ e. omega (arith, e)))

-- what may be handed to bus 1 is the same once bus 0 is up
pub same_handouts : (p : Plant) (h : List Event) → handouts p 1 (Up 0 ∷ h) ≡ handouts p 1 h
same_handouts p h =
    alike (class_handouts p 1 (Up 0 ∷ h)) (class_handouts p 1 h) (same_class p h 2) (same_class p h 3) (same_class p h 4)
    (same_class p h 5)
