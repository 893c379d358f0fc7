-- What is given again, where a list is read from front to back.
use Rattle.std.proofs.Common.{◌≡◌, ℕ, List, [], ◌∷◌, ◌++◌, ◌⊎◌, inl, inr}
use Rattle.std.specs.Prelude.{Option}
use Rattle.ildeclared.specs.Faults.{IsNextOf, OfCause, SomeLater, SomeOf}
use Rattle.ildeclared.specs.Order.{lesser_of_two}
use Rattle.ildeclared.specs.declared.fault.NameCause.TheVariants.{Twice}
use Rattle.ildeclared.specs.declared.found.Found.{Found}
use Rattle.ildeclared.proofs.FoundOrder.{next_same, or_else}
use Rattle.ildeclared.proofs.Least.{both_next, some_append, some_front}

-- one element more, and a pair of an earlier and a later one
module _ {X : Type 0} (R : X → X → Type 0) where
  later_append : (xs : List X) (x : X) → SomeLater R (xs ++ x ∷ []) → SomeLater R xs ⊎ SomeOf (λ e. R e x) xs
  later_append [] x (inl s) = absurd s
  later_append [] x (inr s) = absurd s
  later_append (y ∷ ys) x (inl s) = or_else (λ t. inl (inl t)) (λ r. inr (inl r)) (some_append (R y) ys x s)
  later_append (y ∷ ys) x (inr s) = or_else (λ t. inl (inr t)) (λ r. inr (inr r)) (later_append ys x s)

  later_front : (xs : List X) (x : X) → SomeLater R xs → SomeLater R (xs ++ x ∷ [])
  later_front [] x s = absurd s
  later_front (y ∷ ys) x (inl s) = inl (some_front (R y) ys x s)
  later_front (y ∷ ys) x (inr s) = inr (later_front ys x s)

  pub later_at : (xs : List X) (x : X) (rest : List X) → SomeOf (λ e. R e x) xs → SomeLater R (xs ++ x ∷ rest)
  later_at [] x rest s = absurd s
  later_at (y ∷ ys) x rest (inl r) = inl (there ys)
    where
      there : (zs : List X) → SomeOf (R y) (zs ++ x ∷ rest)
      there [] = inl r
      there (z ∷ zs) = inr (there zs)
  later_at (y ∷ ys) x rest (inr s) = inr (later_at ys x rest s)

some_any : {X : Type 0} {Q : Type 0} (P : X → Type 0) (xs : List X) → SomeOf (λ x. P x × Q) xs → SomeOf P xs × Q
some_any P [] s = absurd s
some_any P (x ∷ xs) (inl p) = (inl p.0, p.1)
some_any P (x ∷ xs) (inr s) = let t = some_any P xs s in (inr t.0, t.1)

with_any : {X : Type 0} {Q : Type 0} (P : X → Type 0) (xs : List X) → Q → SomeOf P xs → SomeOf (λ x. P x × Q) xs
with_any P [] q s = absurd s
with_any P (x ∷ xs) q (inl p) = inl (p, q)
with_any P (x ∷ xs) q (inr s) = inr (with_any P xs q s)

-- what is given again, with one element more: it is known where one before it is the same
module _ {X : Type 0} (after : Option Found) (Same : X → X → Type 0) (place_of : X → ℕ) where
  abbrev Again : X → X → ℕ → Type 0
  Again earlier later place = Same earlier later × (place ≡ place_of later)

  pub twice_last : (front : List X) (x : X) (Known : Type 0) (a b : Option Found)
      → (Known → SomeOf (λ m. Same m x) front) → (SomeOf (λ m. Same m x) front → Known)
      → IsNextOf after (OfCause Twice (λ place. SomeLater (λ e l. Again e l place) front)) a
      → IsNextOf after (OfCause Twice (λ place. Known × (place ≡ place_of x))) b
      → IsNextOf after (OfCause Twice (λ place. SomeLater (λ e l. Again e l place) (front ++ x ∷ [])))
      (lesser_of_two a b)
  twice_last front x Known a b to from h k =
      next_same after _ _ (lesser_of_two a b)
      (λ place cause q.
      or_else (λ s. (s.0, later_front (λ e l. Again e l place) front x s.1))
      (λ s. (s.0, later_at (λ e l. Again e l place) front x [] (with_any (λ m. Same m x) front s.1.1 (to s.1.0)))) q)
      (λ place cause s.
      or_else (λ r. inl (s.0, r)) (λ r. let u = some_any (λ m. Same m x) front r in inr (s.0, (from u.0, u.1)))
      (later_append (λ e l. Again e l place) front x s.1))
      (both_next after (OfCause Twice (λ place. SomeLater (λ e l. Again e l place) front))
      (OfCause Twice (λ place. Known × (place ≡ place_of x))) a b h k)
