-- What a bus that comes up again owes, and that a bus that is down has nothing open.
use Rattle.std.proofs.Common.{◌≡◌, ◌≢◌, ℕ, Bool, true, false, eqb, eq-eqb, List, [], ◌∷◌, Some, None, length}
use Rattle.std.proofs.Common.{refl, sym, ap, ◌∙◌, subst}
use Rattle.std.proofs.lemmas.Bool.{eqb-true, ne_eqb}
use Rattle.std.specs.Prelude.{if◌then◌else◌, ◌==◌, filter_map, option_and_then}
use Rattle.ilmachine.specs.Images.{Global}
use Rattle.plantevents.specs.declared.event.Event.{Event}
use Rattle.plantevents.specs.declared.event.Event.TheVariants.{Tick, Heard, Take, Commit, Hand, Done, Down, Up}
use Rattle.plantevents.specs.Plants.{Plant, output_at}
use Rattle.plantevents.specs.Histories.{OpenHand, hand, is_down}
use Rattle.plantevents.specs.Variables.{value}
use Rattle.plantevents.specs.Waiting.{OwedLevel, handed_level, natural_in, level_class, if_new, addresses, owed}
use Rattle.plantevents.specs.Members.{Has, IsOwed}
use Rattle.plantevents.specs.Legal.{AreLegal}
use Rattle.plantevents.specs.ComingUp.{IsOwedAnew, IsUnchanged}
use Rattle.plantevents.proofs.Owing.{has_owed, owed_has}

-- ---- what is owed

forgotten : (b a : ℕ) (h : List Event) → handed_level b a (Up b ∷ h) ≡ 255
forgotten b a h = ap (λ (same : Bool). if same then 255 else handed_level b a h) (eq-eqb b b refl)

anew : (p : Plant) (b c : ℕ) (h : List Event) (o : OwedLevel) → IsOwed p b c (Up b ∷ h) o → IsOwedAnew p b c h o
anew p b c h o is = record {
  address = is.address;
  global = is.global;
  output = is.output;
  class = is.class;
  is_value = is.is_value;
  is_level = λ none. is.differs (none ∙ sym (forgotten b o.address h));
}

owes : (p : Plant) (b c : ℕ) (h : List Event) (o : OwedLevel) → IsOwedAnew p b c h o → IsOwed p b c (Up b ∷ h) o
owes p b c h o is = record {
  address = is.address;
  global = is.global;
  output = is.output;
  class = is.class;
  is_value = is.is_value;
  differs = λ same. is.is_level (same ∙ forgotten b o.address h);
}

pub owed_anew : (p : Plant) (b c : ℕ) (h : List Event) (o : OwedLevel) → Has (owed p b c (Up b ∷ h)) o
    → IsOwedAnew p b c h o
owed_anew p b c h o has = anew p b c h o (has_owed p b c (Up b ∷ h) o has)

pub anew_owed : (p : Plant) (b c : ℕ) (h : List Event) (o : OwedLevel) → IsOwedAnew p b c h o
    → Has (owed p b c (Up b ∷ h)) o
anew_owed p b c h o is = owed_has p b c (Up b ∷ h) o (owes p b c h o is)

pub owed_elsewhere : (p : Plant) (b d c : ℕ) (h : List Event) → d ≢ b → owed p d c (Up b ∷ h) ≡ owed p d c h
owed_elsewhere p b d c h other =
    ap (λ (same : Bool). filter_map (λ a. option_and_then (λ g. if level_class p g == c
    then option_and_then (if_new (if same then 255 else handed_level d a h) a) (natural_in (value p (Global g) h))
    else None) (output_at p d a)) addresses) (ne_eqb b d (λ e. other (sym e)))

pub unchanged : (p : Plant) (b : ℕ) (h : List Event) → IsUnchanged p h (Up b ∷ h)
unchanged p b h = record {
  variables = λ v. refl;
  instances = λ t. refl;
  scans = λ w. refl;
  transactions = λ d. refl;
  requests = λ d c. refl;
  drops = λ d c. refl;
  events = λ a t. refl;
  losses = λ a t. refl;
  time = refl;
}

-- ---- what is open

-- a bus that is handed a transaction is up
handed_up : (c b : ℕ) (h : List Event) (x : OpenHand) (same : Bool) → eqb c b ≡ same → is_down c h ≡ false
    → is_down b h ≡ true → (is_down b h ≡ true → hand b h ≡ None) → (if same then Some x else hand b h) ≡ None
handed_up c b h x true is up down before =
    let here = subst (λ (n : ℕ). is_down n h ≡ false) (eqb-true c b is) up in absurd (cc)
handed_up c b h x false is up down before = before down

closed : (b : ℕ) (h : List Event) (same : Bool) → is_down b h ≡ true → (is_down b h ≡ true → hand b h ≡ None)
    → (if same then None else hand b h) ≡ None
closed b h true down before = refl
closed b h false down before = before down

went_down : (b : ℕ) (h : List Event) (same : Bool) → (if same then true else is_down b h) ≡ true
    → (is_down b h ≡ true → hand b h ≡ None) → (if same then None else hand b h) ≡ None
went_down b h true down before = refl
went_down b h false down before = before down

came_up : (b : ℕ) (h : List Event) (same : Bool) → (if same then false else is_down b h) ≡ true
    → (is_down b h ≡ true → hand b h ≡ None) → hand b h ≡ None
came_up b h true down before = absurd (cc)
came_up b h false down before = before down

pub down_has_none : (p : Plant) (b : ℕ) (h : List Event) → AreLegal p h → is_down b h ≡ true → hand b h ≡ None
down_has_none p b [] legal down = refl
down_has_none p b (Tick m ∷ h) legal down = down_has_none p b h legal.1 down
down_has_none p b (Heard c f ∷ h) legal down = down_has_none p b h legal.1 down
down_has_none p b (Take w t s ∷ h) legal down = down_has_none p b h legal.1 down
down_has_none p b (Commit w n r ∷ h) legal down = down_has_none p b h legal.1 down
down_has_none p b (Hand c s t ∷ h) legal down =
    handed_up c b h (record { place = length h; origin = s; transaction = t }) (eqb c b) refl legal.0.up.up down
    (down_has_none p b h legal.1)
down_has_none p b (Done c n r ∷ h) legal down = closed b h (eqb c b) down (down_has_none p b h legal.1)
down_has_none p b (Down c ∷ h) legal down = went_down b h (eqb c b) down (down_has_none p b h legal.1)
down_has_none p b (Up c ∷ h) legal down = came_up b h (eqb c b) down (down_has_none p b h legal.1)
