-- Some element of a list that is made of two lists, or of what is made of each element of another.
use Rattle.std.proofs.Common.{List, [], ◌∷◌, ◌++◌, map, ◌⊎◌, inl, inr}
use Rattle.ildeclared.specs.Faults.{SomeOf}
use Rattle.ildeclared.proofs.FoundOrder.{or_else}

module _ {X : Type 0} (P : X → Type 0) where
  pub some_of_either : (xs ys : List X) → SomeOf P (xs ++ ys) → SomeOf P xs ⊎ SomeOf P ys
  some_of_either [] ys s = inr s
  some_of_either (x ∷ xs) ys (inl p) = inl (inl p)
  some_of_either (x ∷ xs) ys (inr s) = or_else (λ t. inl (inr t)) (λ t. inr t) (some_of_either xs ys s)

  pub some_in_either : (xs ys : List X) → SomeOf P xs ⊎ SomeOf P ys → SomeOf P (xs ++ ys)
  some_in_either [] ys (inl s) = absurd s
  some_in_either [] ys (inr s) = s
  some_in_either (x ∷ xs) ys (inl (inl p)) = inl p
  some_in_either (x ∷ xs) ys (inl (inr s)) = inr (some_in_either xs ys (inl s))
  some_in_either (x ∷ xs) ys (inr s) = inr (some_in_either xs ys (inr s))

module _ {X Y : Type 0} (P : Y → Type 0) (f : X → Y) where
  pub some_of_map : (xs : List X) → SomeOf P (map f xs) → SomeOf (λ x. P (f x)) xs
  some_of_map [] s = s
  some_of_map (x ∷ xs) (inl p) = inl p
  some_of_map (x ∷ xs) (inr s) = inr (some_of_map xs s)

  pub some_in_map : (xs : List X) → SomeOf (λ x. P (f x)) xs → SomeOf P (map f xs)
  some_in_map [] s = s
  some_in_map (x ∷ xs) (inl p) = inl p
  some_in_map (x ∷ xs) (inr s) = inr (some_in_map xs s)
