-- The least of the faults of one cause, where a list is read from front to back; and the fault of one test.
use Rattle.std.proofs.Common.{◌≡◌, ℕ, ◌+◌, ◌<◌, List, [], ◌∷◌, ◌++◌, Bool, true, false, length, take, get_or}
use Rattle.std.proofs.Common.{subst, sym, refl, ◌⊎◌, inl, inr}
use Rattle.std.proofs.lemmas.List.{get_or_default, take_all}
use Rattle.std.specs.Prelude.{◌↔◌, ◌≤◌, IsTrue, Option}
use Rattle.ildeclared.specs.Faults.{IsNextOf, OfCause, SomeOf}
use Rattle.ildeclared.specs.Order.{lesser_of_two}
use Rattle.ildeclared.specs.declared.fault.NameCause.{NameCause}
use Rattle.ildeclared.specs.declared.found.Found.{Found}
use Rattle.ildeclared.proofs.FoundOrder.{next_same, or_else}
use Rattle.ildeclared.proofs.Least.{next_of_more_at, of_one_cause, some_append, some_front, some_last, take_more}

take_one : {X : Type 0} (xs : List X) (i : ℕ) (d : X) → i < length xs
    → take (i + 1) xs ≡ take i xs ++ get_or xs i d ∷ []
take_one xs i d below = take_more xs i (get_or xs i d) below (get_or_default xs i d (get_or xs i d) below)

module _ {X : Type 0} (after : Option Found) (its : NameCause) (Q : X → ℕ → Type 0) where
  abbrev One : List X → ℕ → NameCause → Type 0
  One xs = OfCause its (λ place. SomeOf (λ x. Q x place) xs)

  abbrev Each : List X → ℕ → NameCause → Type 0
  Each xs place cause = SomeOf (λ x. OfCause its (Q x) place cause) xs

  outside : (xs : List X) (place : ℕ) (cause : NameCause) → Each xs place cause → One xs place cause
  outside [] place cause s = absurd s
  outside (x ∷ xs) place cause (inl p) = (p.0, inl p.1)
  outside (x ∷ xs) place cause (inr s) = let t = outside xs place cause s in (t.0, inr t.1)

  inside : (xs : List X) (place : ℕ) (cause : NameCause) → cause ≡ its → SomeOf (λ x. Q x place) xs
      → Each xs place cause
  inside [] place cause e s = absurd s
  inside (x ∷ xs) place cause e (inl p) = inl (e, p)
  inside (x ∷ xs) place cause e (inr s) = inr (inside xs place cause e s)

  of_each : (xs : List X) (o : Option Found) → IsNextOf after (One xs) o → IsNextOf after (Each xs) o
  of_each xs o h =
      next_same after (One xs) (Each xs) o (λ place cause s. inside xs place cause s.0 s.1)
      (λ place cause s. outside xs place cause s) h

  pub more_of_cause : (xs : List X) (i : ℕ) (d : X) (a b : Option Found) → i < length xs
      → IsNextOf after (One (take i xs)) a → IsNextOf after (OfCause its (Q (get_or xs i d))) b
      → IsNextOf after (One (take (i + 1) xs)) (lesser_of_two a b)
  more_of_cause xs i d a b below h k =
      of_one_cause after its Q (take (i + 1) xs) (lesser_of_two a b)
      (next_of_more_at after (λ x. OfCause its (Q x)) xs i d a b below (of_each (take i xs) a h) k)

  -- where the element that is read is named
  pub item_of_cause : (xs : List X) (i : ℕ) (d x : X) (a b : Option Found) → i < length xs → x ≡ get_or xs i d
      → IsNextOf after (One (take i xs)) a → IsNextOf after (OfCause its (Q x)) b
      → IsNextOf after (One (take (i + 1) xs)) (lesser_of_two a b)
  item_of_cause xs i d x a b below e h k =
      more_of_cause xs i d a b below h (subst (λ (y : X). IsNextOf after (OfCause its (Q y)) b) e k)

  pub whole_of_cause : (xs : List X) (i : ℕ) (a : Option Found) → length xs ≤ i → IsNextOf after (One (take i xs)) a
      → IsNextOf after (One xs) a
  whole_of_cause xs i a end h = subst (λ (ys : List X). IsNextOf after (One ys) a) (take_all i xs end) h

-- the fault of a test that says whether there is one
pub found_same : (after : Option Found) (its : NameCause) (P Q : ℕ → Type 0) (o : Option Found) →
    ((place : ℕ) → P place ↔ Q place)
    → IsNextOf after (OfCause its P) o → IsNextOf after (OfCause its Q) o
found_same after its P Q o same h =
    next_same after (OfCause its P) (OfCause its Q) o (λ place cause p. (p.0, (same place).0 p.1))
    (λ place cause q. (q.0, (same place).1 q.1)) h

-- some element has a property, where a list is read from front to back
module _ {X : Type 0} (P : X → Type 0) (xs : List X) (i : ℕ) (d : X) (below : i < length xs) where
  pub some_here : P (get_or xs i d) → SomeOf P (take (i + 1) xs)
  some_here p = rw (take_one xs i d below) (some_last P (take i xs) (get_or xs i d) p)

  pub some_before : SomeOf P (take i xs) → SomeOf P (take (i + 1) xs)
  some_before s = rw (take_one xs i d below) (some_front P (take i xs) (get_or xs i d) s)

  pub some_so_far : SomeOf P (take (i + 1) xs) → SomeOf P (take i xs) ⊎ P (get_or xs i d)
  some_so_far s =
      some_append P (take i xs) (get_or xs i d) (subst (λ (ys : List X). SomeOf P ys) (take_one xs i d below) s)

  some_same : (here before after : Bool) → (IsTrue here ↔ P (get_or xs i d)) → (IsTrue before ↔ SomeOf P (take i xs))
      → ((here ≡ true) × (after ≡ true)) ⊎ ((here ≡ false) × (after ≡ before))
      → IsTrue after ↔ SomeOf P (take (i + 1) xs)
  some_same here before after h k (inl e) =
      (λ t. some_here (h.0 (rw e.0 refl)), λ s. rw e.1 refl)
  some_same here before after h k (inr e) = (
    λ t. some_before (k.0 (subst IsTrue e.1 t)),
    λ s. subst IsTrue (sym e.1)
        (or_else (λ p. k.1 p) (λ q. absurd (let no : false ≡ true = subst IsTrue e.0 (h.1 q) in cc)) (some_so_far s)),
  )

-- a flag that is set where an element has the property
pub flag_more : {X : Type 0} (P : X → Type 0) (xs ys : List X) (i : ℕ) (d : X) (here before after : Bool) → xs ≡ ys
    → i < length xs → (IsTrue here ↔ P (get_or xs i d)) → (IsTrue before ↔ SomeOf P (take i ys))
    → ((here ≡ true) × (after ≡ true)) ⊎ ((here ≡ false) × (after ≡ before))
    → IsTrue after ↔ SomeOf P (take (i + 1) ys)
flag_more {X} P xs ys i d here before after e below h k b =
    subst (λ (zs : List X). IsTrue after ↔ SomeOf P (take (i + 1) zs)) e
    (some_same P xs i d below here before after h
    (subst (λ (zs : List X). IsTrue before ↔ SomeOf P (take i zs)) (sym e) k) b)
