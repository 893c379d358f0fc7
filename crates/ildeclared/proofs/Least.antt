-- The least of some faults, put together from the least of their parts; what holds of a list that is read from front to
-- back.
use Rattle.std.proofs.Common.{◌≡◌, ℕ, zero, suc, ◌+◌, ◌<◌, List, [], ◌∷◌, ◌++◌, Bool, true, false, length, take, get_or}
use Rattle.std.proofs.Common.{refl, ap, sym, ◌∙◌, subst, ◌⊎◌, inl, inr, add-one, arith}
use Rattle.std.proofs.Math.Seq.{take-suc}
use Rattle.std.proofs.lemmas.List.{get_or_default}
use Rattle.std.specs.Prelude.{Option, Some, None, slice_get, if◌then◌else◌}
use Rattle.ildeclared.specs.Causes.{name_fault_number}
use Rattle.ildeclared.specs.Faults.{Beyond, IsLeastOf, IsNextOf, OfCause, SomeOf}
use Rattle.ildeclared.specs.Order.{comes_before, lesser_of_two}
use Rattle.ildeclared.specs.declared.fault.NameCause.{NameCause}
use Rattle.ildeclared.specs.declared.found.Found.{Found}
use Rattle.ildeclared.proofs.FoundOrder.{best_same, next_same, or_else, later, is_before, is_not_before}

-- the lesser of the least of two parts is the least of both
pub both_least : (P Q : ℕ → NameCause → Type 0) (a b : Option Found) → IsLeastOf P a → IsLeastOf Q b →
    IsLeastOf (λ place cause. P place cause ⊎ Q place cause) (lesser_of_two a b)
both_least P Q a None h k =
    best_same P _ a (λ place cause p. inl p) (λ place cause q. or_else (λ p. p) (λ y. absurd (k place cause y)) q) h
both_least P Q None (Some f) h k =
    record {
      is = inr k.is;
      least =
          λ place cause q. or_else (λ p. absurd (h place cause p)) (λ y. k.least place cause y) q;
    }
both_least P Q (Some g) (Some f) h k = two (comes_before f g) refl
  where
    two : (b : Bool) → comes_before f g ≡ b
        → IsLeastOf (λ place cause. P place cause ⊎ Q place cause) (Some (if b then f else g))
    two true e =
        record {
          is = inr k.is;
          least = λ place cause q.
              or_else (λ p. later f.at g.at place (name_fault_number f.cause) (name_fault_number g.cause)
              (name_fault_number cause)
              (is_before f g e) (h.least place cause p)) (λ y. k.least place cause y) q;
        }
    two false e =
        record {
          is = inl h.is;
          least = λ place cause q.
              or_else (λ p. h.least place cause p)
              (λ y. later g.at f.at place (name_fault_number g.cause) (name_fault_number f.cause)
              (name_fault_number cause)
              (is_not_before f g e) (k.least place cause y)) q;
        }

-- the same of those that come after another
pub both_next : (after : Option Found) (P Q : ℕ → NameCause → Type 0) (a b : Option Found) → IsNextOf after P a →
    IsNextOf after Q b → IsNextOf after (λ place cause. P place cause ⊎ Q place cause) (lesser_of_two a b)
both_next after P Q a b h k =
    best_same _ _ (lesser_of_two a b)
    (λ place cause s. or_else (λ p. (inl p.0, p.1)) (λ q. (inr q.0, q.1)) s)
    (λ place cause s. or_else (λ p. inl (p, s.1)) (λ q. inr (q, s.1)) s.0)
    (both_least (Beyond after P) (Beyond after Q) a b h k)

-- and of two parts with one cause
pub either_next : (after : Option Found) (its : NameCause) (P Q : ℕ → Type 0) (a b : Option Found) →
    IsNextOf after (OfCause its P) a → IsNextOf after (OfCause its Q) b →
    IsNextOf after (OfCause its (λ place. P place ⊎ Q place)) (lesser_of_two a b)
either_next after its P Q a b h k =
    next_same after _ _ (lesser_of_two a b)
    (λ place cause s. or_else (λ p. (p.0, inl p.1)) (λ q. (q.0, inr q.1)) s)
    (λ place cause s. or_else (λ p. inl (s.0, p)) (λ q. inr (s.0, q)) s.1)
    (both_next after (OfCause its P) (OfCause its Q) a b h k)

pub some_front : {X : Type 0} (P : X → Type 0) (xs : List X) (x : X) → SomeOf P xs → SomeOf P (xs ++ x ∷ [])
some_front P [] x s = absurd s
some_front P (y ∷ ys) x (inl p) = inl p
some_front P (y ∷ ys) x (inr s) = inr (some_front P ys x s)

pub some_last : {X : Type 0} (P : X → Type 0) (xs : List X) (x : X) → P x → SomeOf P (xs ++ x ∷ [])
some_last P [] x p = inl p
some_last P (y ∷ ys) x p = inr (some_last P ys x p)

pub some_append : {X : Type 0} (P : X → Type 0) (xs : List X) (x : X) → SomeOf P (xs ++ x ∷ []) → SomeOf P xs ⊎ P x
some_append P [] x (inl p) = inr p
some_append P [] x (inr s) = absurd s
some_append P (y ∷ ys) x (inl p) = inl (inl p)
some_append P (y ∷ ys) x (inr s) = or_else (λ t. inl (inr t)) inr (some_append P ys x s)

pub take_more : {X : Type 0} (xs : List X) (i : ℕ) (x : X) → i < length xs → x ≡ get_or xs i x
    → take (i + 1) xs ≡ take i xs ++ x ∷ []
take_more xs i x below e = rw add-one (take-suc xs i x below ∙ ap (λ y. take i xs ++ y ∷ []) (sym e))

-- the next of the faults of what was read so far, with those of the next
pub next_of_more : {X : Type 0} (after : Option Found) (P : X → ℕ → NameCause → Type 0) (xs : List X) (i : ℕ) (x : X)
    (a b : Option Found)
    → i < length xs → x ≡ get_or xs i x →
    IsNextOf after (λ place cause. SomeOf (λ y. P y place cause) (take i xs)) a → IsNextOf after (P x) b →
    IsNextOf after (λ place cause. SomeOf (λ y. P y place cause) (take (i + 1) xs)) (lesser_of_two a b)
next_of_more {X} after P xs i x a b below e h k =
    subst (λ (ys : List X). IsNextOf after (λ place cause. SomeOf (λ y. P y place cause) ys) (lesser_of_two a b))
    (sym (take_more xs i x below e))
    (next_same after _ _ (lesser_of_two a b)
    (λ place cause q. or_else (λ s. some_front (λ y. P y place cause) (take i xs) x s)
    (λ p. some_last (λ y. P y place cause) (take i xs) x p) q)
    (λ place cause s. some_append (λ y. P y place cause) (take i xs) x s)
    (both_next after (λ place cause. SomeOf (λ y. P y place cause) (take i xs)) (P x) a b h k))

-- the least of one fault
pub one_found : (P : ℕ → NameCause → Type 0) (f : Found) → P f.at f.cause
    → ((place : ℕ) (cause : NameCause) → P place cause → (place ≡ f.at) × (cause ≡ f.cause)) →
    IsLeastOf P (Some f)
one_found P f p one = record {
  is = p;
  least = λ place cause q. let e = one place cause q in let n = ap name_fault_number e.1 in
      inr (sym e.0, omega (arith, n));
}

-- faults of one cause, at some element of a list
pub of_one_cause : {X : Type 0} (after : Option Found) (its : NameCause) (Q : X → ℕ → Type 0) (xs : List X)
    (o : Option Found) →
    IsNextOf after (λ place cause. SomeOf (λ y. OfCause its (Q y) place cause) xs) o
    → IsNextOf after (OfCause its (λ place. SomeOf (λ y. Q y place) xs)) o
of_one_cause {X} after its Q xs o h =
    next_same after _ _ o (λ place cause s. outside xs place cause s) (λ place cause s. inside xs place cause s.0 s.1) h
  where
    outside : (ys : List X) (place : ℕ) (cause : NameCause) → SomeOf (λ y. OfCause its (Q y) place cause) ys
        → OfCause its (λ at. SomeOf (λ y. Q y at) ys) place cause
    outside [] place cause s = absurd s
    outside (y ∷ ys) place cause (inl p) = (p.0, inl p.1)
    outside (y ∷ ys) place cause (inr s) = let t = outside ys place cause s in (t.0, inr t.1)

    inside : (ys : List X) (place : ℕ) (cause : NameCause) → cause ≡ its → SomeOf (λ y. Q y place) ys
        → SomeOf (λ y. OfCause its (Q y) place cause) ys
    inside [] place cause e s = absurd s
    inside (y ∷ ys) place cause e (inl p) = inl (e, p)
    inside (y ∷ ys) place cause e (inr s) = inr (inside ys place cause e s)

-- what stands at a place of a list
pub got_at : {X : Type 0} (xs : List X) (i : ℕ) (x : X) → i < length xs → x ≡ get_or xs i x → slice_get xs i ≡ Some x
got_at [] i x b e = absurd (omega arith)
got_at (y ∷ ys) zero x b e = ap (λ z. Some z) (sym e)
got_at (y ∷ ys) (suc i) x b e = got_at ys i x (omega arith) e

pub got_below : {X : Type 0} (xs : List X) (i : ℕ) (x : X) → slice_get xs i ≡ Some x → i < length xs
got_below [] i x e = absurd cc
got_below (y ∷ ys) zero x e = omega arith
got_below (y ∷ ys) (suc i) x e = omega (arith, got_below ys i x e)

pub next_of_more_at : {X : Type 0} (after : Option Found) (P : X → ℕ → NameCause → Type 0) (xs : List X) (i : ℕ)
    (d : X) (a b : Option Found)
    → i < length xs →
    IsNextOf after (λ place cause. SomeOf (λ y. P y place cause) (take i xs)) a → IsNextOf after (P (get_or xs i d)) b →
    IsNextOf after (λ place cause. SomeOf (λ y. P y place cause) (take (i + 1) xs)) (lesser_of_two a b)
next_of_more_at after P xs i d a b below h k =
    next_of_more after P xs i (get_or xs i d) a b below (get_or_default xs i d (get_or xs i d) below) h k
