-- The value of a variable is that of the last write to it.
use Rattle.std.proofs.Common.{◌≡◌, ◌⊎◌, ⊎_elim, inl, inr, List, [], ◌∷◌, ◌++◌, Option, Some, None, refl, ap, ◌∙◌, subst}
use Rattle.iltypes.specs.declared.value.Value.{Value}
use Rattle.ilmachine.specs.Images.{ImageVariable}
use Rattle.plantevents.specs.declared.event.Event.{Event}
use Rattle.plantevents.specs.Plants.{Plant}
use Rattle.plantevents.specs.Variables.{newest, write_of, value}
use Rattle.plantevents.specs.Writes.{HasLast, HasFirst}

-- what holds of the newest event with its front, and of each before it, holds of each
each_event : (P : Event → List Event → Type 0) (e : Event) (h : List Event) → P e h
    → ((later front : List Event) (x : Event) → h ≡ later ++ x ∷ front → P x front)
    → (later front : List Event) (x : Event) → e ∷ h ≡ later ++ x ∷ front → P x front
each_event P e h here deeper [] front x is =
    let same : e ≡ x = cc in let rest : h ≡ front = cc in subst (λ f. P x f) rest (subst (λ y. P y h) same here)
each_event P e h here deeper (y ∷ later) front x is = deeper later front x (cc)

no_front : (later front : List Event) (e : Event) → [] ≡ later ++ e ∷ front → ⊥
no_front [] front e is = absurd (cc)
no_front (x ∷ later) front e is = absurd (cc)

writes_now : (p : Plant) (v : ImageVariable) (e : Event) (h : List Event) (x : Value) → write_of p v e h ≡ Some x
    → HasLast p v (e ∷ h)
writes_now p v e h x now =
    record {
      x = x;
      write = record {
        later = [];
        event = e;
        front = h;
        stands = refl;
        writes = now;
        last = λ newer between y is. absurd (no_front newer between y is);
      };
      is = ap (λ o. newest o (value p v h)) now;
    }

keeps_last : (p : Plant) (v : ImageVariable) (e : Event) (h : List Event) → write_of p v e h ≡ None → HasLast p v h
    → HasLast p v (e ∷ h)
keeps_last p v e h none l =
    let w = l.write in
    record {
      x = l.x;
      write = record {
        later = e ∷ w.later;
        event = w.event;
        front = w.front;
        stands = ap (λ k. e ∷ k) w.stands;
        writes = w.writes;
        last = each_event (λ y between. write_of p v y (between ++ w.event ∷ w.front) ≡ None) e w.later
            (subst (λ k. write_of p v e k ≡ None) w.stands none) (λ newer between y is. w.last newer between y is);
      };
      is = ap (λ o. newest o (value p v h)) none ∙ l.is;
    }

keeps_first : (p : Plant) (v : ImageVariable) (e : Event) (h : List Event) → write_of p v e h ≡ None → HasFirst p v h
    → HasFirst p v (e ∷ h)
keeps_first p v e h none f =
    record {
      never = each_event (λ y front. write_of p v y front ≡ None) e h none f.never;
      is = ap (λ o. newest o (value p v h)) none ∙ f.is;
    }

by_cases : (p : Plant) (v : ImageVariable) (e : Event) (h : List Event) (o : Option Value) → write_of p v e h ≡ o
    → HasLast p v h ⊎ HasFirst p v h → HasLast p v (e ∷ h) ⊎ HasFirst p v (e ∷ h)
by_cases p v e h (Some x) now before = inl (writes_now p v e h x now)
by_cases p v e h None none before =
    ⊎_elim (λ (l : HasLast p v h). inl (keeps_last p v e h none l)) (λ (f : HasFirst p v h).
    inr (keeps_first p v e h none f)) before

pub last_write : (p : Plant) (v : ImageVariable) (h : List Event) → HasLast p v h ⊎ HasFirst p v h
last_write p v [] = inr (record { never = λ later front e is. absurd (no_front later front e is); is = refl })
last_write p v (e ∷ h) = by_cases p v e h (write_of p v e h) refl (last_write p v h)
