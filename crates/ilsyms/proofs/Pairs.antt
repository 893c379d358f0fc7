-- Pairs of a list, an earlier element and a later one, that are so related; lists without such a pair.
use Rattle.std.proofs.Common.{◌≡◌, ℕ, zero, suc, List, [], ◌∷◌, ◌++◌, map, refl, sym, ap, subst, inl, inr, ◌⊎◌}
use Rattle.std.specs.Prelude.{Some, slice_get}
use Rattle.ildeclared.specs.Faults.{SomeLater, SomeOf}
use Rattle.ildeclared.proofs.FoundOrder.{or_else}
use Rattle.ilscope.proofs.Lists.{at_some}
use Rattle.ilsyms.proofs.PlacedLists.{made_some, some_left, some_made, some_parts, some_right}

module _ {X : Type 0} (R : X → X → Type 0) where
  pub later_left : (xs ys : List X) → SomeLater R xs → SomeLater R (xs ++ ys)
  later_left [] ys s = absurd s
  later_left (x ∷ xs) ys (inl s) = inl (some_left (R x) xs ys s)
  later_left (x ∷ xs) ys (inr s) = inr (later_left xs ys s)

  pub later_right : (xs ys : List X) → SomeLater R ys → SomeLater R (xs ++ ys)
  later_right [] ys s = s
  later_right (x ∷ xs) ys s = inr (later_right xs ys s)

  pub later_cross : (xs ys : List X) → SomeOf (λ x. SomeOf (R x) ys) xs → SomeLater R (xs ++ ys)
  later_cross [] ys s = absurd s
  later_cross (x ∷ xs) ys (inl s) = inl (some_right (R x) xs ys s)
  later_cross (x ∷ xs) ys (inr s) = inr (later_cross xs ys s)

  pub later_parts : (xs ys : List X) → SomeLater R (xs ++ ys)
      → SomeLater R xs ⊎ SomeLater R ys ⊎ SomeOf (λ x. SomeOf (R x) ys) xs
  later_parts [] ys s = inr (inl s)
  later_parts (x ∷ xs) ys (inl s) =
      or_else (λ l. inl (inl l)) (λ r. inr (inr (inl r))) (some_parts (R x) xs ys s)
  later_parts (x ∷ xs) ys (inr s) =
      or_else (λ l. inl (inr l)) (λ r. or_else (λ m. inr (inl m)) (λ c. inr (inr (inr c))) r) (later_parts xs ys s)

  -- where there is none, two that are so related are one
  pub one_number : ((a b : X) → R a b → R b a) → (xs : List X) → ¬ SomeLater R xs → (k l : ℕ) (x y : X)
      → slice_get xs k ≡ Some x → slice_get xs l ≡ Some y → R x y → k ≡ l
  one_number turn [] none k l x y e f r = absurd cc
  one_number turn (z ∷ xs) none zero zero x y e f r = refl
  one_number turn (z ∷ xs) none zero (suc l) x y e f r =
      let same : z ≡ x = cc in
      absurd (none (inl (at_some (R z) xs l y f (subst (λ a. R a y) (sym same) r))))
  one_number turn (z ∷ xs) none (suc k) zero x y e f r =
      let same : z ≡ y = cc in
      absurd (none (inl (at_some (R z) xs k x e (subst (λ a. R a x) (sym same) (turn x y r)))))
  one_number turn (z ∷ xs) none (suc k) (suc l) x y e f r =
      ap suc (one_number turn xs (λ s. none (inr s)) k l x y e f r)

pub later_as : {X : Type 0} (R S : X → X → Type 0) → ((a b : X) → R a b → S a b) → (xs : List X) → SomeLater R xs
    → SomeLater S xs
later_as R S f [] s = absurd s
later_as {X} R S f (x ∷ xs) (inl s) = inl (some xs s)
  where
    some : (ys : List X) → SomeOf (R x) ys → SomeOf (S x) ys
    some [] s = absurd s
    some (y ∷ ys) (inl r) = inl (f x y r)
    some (y ∷ ys) (inr s) = inr (some ys s)
later_as R S f (x ∷ xs) (inr s) = inr (later_as R S f xs s)

pub later_made : {X Y : Type 0} (f : X → Y) (R : Y → Y → Type 0) (xs : List X) → SomeLater R (map f xs)
    → SomeLater (λ a b. R (f a) (f b)) xs
later_made f R [] s = absurd s
later_made f R (x ∷ xs) (inl s) = inl (some_made f (R (f x)) xs s)
later_made f R (x ∷ xs) (inr s) = inr (later_made f R xs s)

pub made_later : {X Y : Type 0} (f : X → Y) (R : Y → Y → Type 0) (xs : List X)
    → SomeLater (λ a b. R (f a) (f b)) xs → SomeLater R (map f xs)
made_later f R [] s = absurd s
made_later f R (x ∷ xs) (inl s) = inl (made_some f (R (f x)) xs s)
made_later f R (x ∷ xs) (inr s) = inr (made_later f R xs s)
