-- What is kept of a list, one element more than a bound at most, is the front of it.
use Rattle.std.proofs.Common.{◌≡◌, ℕ, ◌+◌, ◌<◌, ◌≤◌, List, [], ◌∷◌, ◌++◌, map, take, length, get_or, sym, ap, ◌∙◌}
use Rattle.std.proofs.Common.{arith}
use Rattle.std.proofs.Common.{length-append, append_assoc}
use Rattle.std.proofs.lemmas.List.{length-take, take_all, take-append-le, take_more, map-append}

module _ {X : Type 0} (n : ℕ) (items all : List X) (is : items ≡ take (n + 1) all) where
  long : length items ≡ length (take (n + 1) all)
  long = ap (λ (xs : List X). length xs) is

  -- where there are not too many, one more is kept
  pub pushed : (x : X) → length items ≤ n → items ++ x ∷ [] ≡ take (n + 1) (all ++ x ∷ [])
  pushed x few =
      let taken = length-take (n + 1) all in
      let whole = take_all (n + 1) all (omega (arith, long, few, taken)) in
      let more = length-append all (x ∷ []) in
      ap (λ xs. xs ++ x ∷ []) (is ∙ whole)
      ∙ sym (take_all (n + 1) (all ++ x ∷ []) (omega (arith, more, long, few, taken)))

  -- where there are, no more is
  pub full : (more : List X) → n < length items → items ≡ take (n + 1) (all ++ more)
  full more many =
      let taken = length-take (n + 1) all in
      is ∙ sym (take-append-le (n + 1) all more (omega (arith, long, many, taken)))

-- one element of a list more
pub mapped_more : {X Y : Type 0} (f : X → Y) (all : List Y) (xs : List X) (i : ℕ) (d : X) → i < length xs
    → (all ++ map f (take i xs)) ++ f (get_or xs i d) ∷ [] ≡ all ++ map f (take (i + 1) xs)
mapped_more f all xs i d below =
    append_assoc all (map f (take i xs)) (f (get_or xs i d) ∷ [])
    ∙ ap (λ ys. all ++ ys)
    (sym (map-append f (take i xs) (get_or xs i d ∷ [])) ∙ ap (map f) (sym (take_more xs i d below)))
