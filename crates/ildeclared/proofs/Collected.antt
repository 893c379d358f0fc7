-- What a loop has added to a list so far, with what its next step adds, and at its end.
use Rattle.std.proofs.Common.{◌≡◌, ◌∙◌, ℕ, ◌+◌, ◌<◌, ◌≤◌, List, [], ◌∷◌, ◌++◌, length, map, take, get_or, ap, refl, sym}
use Rattle.std.proofs.Common.{append_assoc, append-nil}
use Rattle.std.proofs.lemmas.List.{flat_map_more, map_more, take_all}
use Rattle.std.specs.Prelude.{flat_map}
use Rattle.ildeclared.proofs.Least.{take_more}

module _ {X A : Type 0} where
  -- one element for each
  pub each_more : (f : X → A) (xs : List X) (i : ℕ) (d : X) (old before after : List A) → i < length xs
      → before ≡ old ++ map f (take i xs) → after ≡ before ++ f (get_or xs i d) ∷ []
      → after ≡ old ++ map f (take (i + 1) xs)
  each_more f xs i d old before after below so_far added =
      added
      ∙ ap (λ (ys : List A). ys ++ f (get_or xs i d) ∷ []) so_far
      ∙ append_assoc old (map f (take i xs)) (f (get_or xs i d) ∷ [])
      ∙ ap (λ (ys : List A). old ++ ys) (sym (map_more f xs i d below))

  pub each_of_all : (f : X → A) (xs : List X) (i : ℕ) (old after : List A) → length xs ≤ i
      → after ≡ old ++ map f (take i xs) → after ≡ old ++ map f xs
  each_of_all f xs i old after past so_far =
      so_far ∙ ap (λ (ys : List X). old ++ map f ys) (take_all i xs past)

  -- a list for each
  pub those_more : (f : X → List A) (xs : List X) (i : ℕ) (x : X) (before after : List A) → i < length xs
      → x ≡ get_or xs i x → before ≡ flat_map f (take i xs) → after ≡ before ++ f x
      → after ≡ flat_map f (take (i + 1) xs)
  those_more f xs i x before after below is so_far added =
      added
      ∙ ap (λ (ys : List A). ys ++ f x) so_far
      ∙ flat_map_more f [] (take i xs) x
      ∙ ap (λ (ys : List X). flat_map f ys) (sym (take_more xs i x below is))

  pub those_of_all : (f : X → List A) (xs : List X) (i : ℕ) (after : List A) → length xs ≤ i
      → after ≡ flat_map f (take i xs) → after ≡ flat_map f xs
  those_of_all f xs i after past so_far = so_far ∙ ap (λ (ys : List X). flat_map f ys) (take_all i xs past)

  -- the same after what was there
  pub those_added : (f : X → List A) (xs : List X) (i : ℕ) (x : X) (old before after : List A) → i < length xs
      → x ≡ get_or xs i x → before ≡ old ++ flat_map f (take i xs) → after ≡ before ++ f x
      → after ≡ old ++ flat_map f (take (i + 1) xs)
  those_added f xs i x old before after below is so_far added =
      let front : List A = flat_map f (take i xs) in
      added
      ∙ ap (λ (ys : List A). ys ++ f x) so_far
      ∙ append_assoc old front (f x)
      ∙ ap (λ (ys : List A). old ++ ys) (those_more f xs i x front (front ++ f x) below is refl refl)

  pub those_of_all_added : (f : X → List A) (xs : List X) (i : ℕ) (old after : List A) → length xs ≤ i
      → after ≡ old ++ flat_map f (take i xs) → after ≡ old ++ flat_map f xs
  those_of_all_added f xs i old after past so_far =
      so_far ∙ ap (λ (ys : List X). old ++ flat_map f ys) (take_all i xs past)

-- where nothing is added
pub none_added : {A : Type 0} (before after none : List A) → after ≡ before → none ≡ [] → after ≡ before ++ none
none_added {A} before after none same e = same ∙ sym (append-nil before) ∙ ap (λ (ys : List A). before ++ ys) (sym e)
