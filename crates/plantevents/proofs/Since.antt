-- `since` is the least length from which on a task was ready without a break.
use Rattle.std.proofs.Common.{◌≡◌, ◌⊎◌, ⊎_elim, inl, inr, ℕ, ◌+◌, ◌<◌, ◌≤◌, Bool, true, false, List, [], ◌∷◌, ◌++◌}
use Rattle.std.proofs.Common.{length, refl, ap, subst, arith, length-append, Option}
use Rattle.std.specs.Prelude.{if◌then◌else◌}
use Rattle.plantevents.specs.declared.activator.Activator.{Activator}
use Rattle.plantevents.specs.declared.event.Event.{Event}
use Rattle.plantevents.specs.Readiness.{ready, is_take, since}
use Rattle.plantevents.specs.Fronts.{IsUnbroken, IsSince}

-- what holds of a history, and of each front of what it was before its last event
each_front : (P : List Event → Type 0) (e : Event) (h : List Event) → P (e ∷ h)
    → ((later front : List Event) → h ≡ later ++ front → P front)
    → (later front : List Event) → e ∷ h ≡ later ++ front → P front
each_front P e h here deeper [] front is = subst P is here
each_front P e h here deeper (x ∷ later) front is = deeper later front (cc)

no_longer : (h later front : List Event) → h ≡ later ++ front → length front ≤ length h
no_longer h later front is = let n = ap length is in omega (arith, length-append later front)

nil_front : (later front : List Event) → [] ≡ later ++ front → [] ≡ front
nil_front [] front is = is
nil_front (x ∷ later) front is = absurd (cc)

nat_split : (m n : ℕ) → (n < m) ⊎ (m ≤ n)
nat_split m n = grind arith

-- the newest event of a front, if it stands at place n or later, is no Take of t
abbrev Untaken : ℕ → ℕ → List Event → Type 0
Untaken t n [] = Unit {0}
Untaken t n (e ∷ front) = n ≤ length front → is_take t e ≡ false

untaken_before : (a : Option Activator) (t : ℕ) (h : List Event) (n : ℕ) → IsUnbroken a t h n
    → (later front : List Event) → h ≡ later ++ front → Untaken t n front
untaken_before a t h n u later [] is = tt
untaken_before a t h n u later (e ∷ front) is = u.untaken later front e is

-- a Take, or the first moment at which it is ready
starts_here : (a : Option Activator) (t : ℕ) (e : Event) (h : List Event) → ready a t (e ∷ h) ≡ true
    → (is_take t e ≡ true) ⊎ (ready a t h ≡ false) → IsSince a t (e ∷ h) (length h + 1)
starts_here a t e h now why = record {
  unbroken = record {
    within = omega arith;
    is_ready = each_front (λ f. length h + 1 ≤ length f → ready a t f ≡ true) e h (λ _. now) (λ later front is le.
        let n = no_longer h later front is in absurd (omega arith));
    untaken = λ later front x is le. let n = no_longer (e ∷ h) later (x ∷ front) is in absurd (omega arith);
  };
  least = λ m u. elim (nat_split m (length h)) [
    | inl above ↦ omega arith
    | inr le ↦ ⊎_elim
        (λ (took : is_take t e ≡ true). let untaken = u.untaken [] h e refl le in absurd (cc))
        (λ (idle : ready a t h ≡ false). let busy = u.is_ready (e ∷ []) h refl le in absurd (cc))
        why
  ];
}

goes_on : (a : Option Activator) (t : ℕ) (e : Event) (h : List Event) (n : ℕ) → ready a t (e ∷ h) ≡ true
    → is_take t e ≡ false → IsSince a t h n → IsSince a t (e ∷ h) n
goes_on a t e h n now untaken s = record {
  unbroken = record {
    within = let w = s.unbroken.within in omega arith;
    is_ready = each_front (λ f. n ≤ length f → ready a t f ≡ true) e h (λ _. now) s.unbroken.is_ready;
    untaken = λ later front x is. each_front (λ f. Untaken t n f) e h (λ _.
        untaken) (untaken_before a t h n s.unbroken) later (x ∷ front) is;
  };
  least = λ m u. elim (nat_split m (length h)) [
    | inl above ↦ let w = s.unbroken.within in omega arith
    | inr le ↦ s.least m (record {
      within = le;
      is_ready = λ later front is. u.is_ready (e ∷ later) front (ap (λ l. e ∷ l) is);
      untaken = λ later front x is. u.untaken (e ∷ later) front x (ap (λ l. e ∷ l) is);
    })
  ];
}

by_cases : (a : Option Activator) (t : ℕ) (e : Event) (h : List Event) → ready a t (e ∷ h) ≡ true
    → (ready a t h ≡ true → IsSince a t h (since a t h))
    → (b r : Bool) → is_take t e ≡ b → ready a t h ≡ r
    → IsSince a t (e ∷ h) (if b then length h + 1 else (if r then since a t h else length h + 1))
by_cases a t e h now before true r took was = starts_here a t e h now (inl took)
by_cases a t e h now before false true kept was = goes_on a t e h (since a t h) now kept (before was)
by_cases a t e h now before false false kept was = starts_here a t e h now (inr was)

pub since_law : (a : Option Activator) (t : ℕ) (h : List Event) → ready a t h ≡ true → IsSince a t h (since a t h)
since_law a t [] now = record {
  unbroken = record {
    within = omega arith;
    is_ready = λ later front is _. subst (λ f. ready a t f ≡ true) (nil_front later front is) now;
    untaken = λ later front x is _. let n = no_longer [] later (x ∷ front) is in absurd (omega arith);
  };
  least = λ m _. omega arith;
}
since_law a t (e ∷ h) now = by_cases a t e h now (since_law a t h) (is_take t e) (ready a t h) refl refl
