-- Whether a test holds of an item, and the first that a function gives something of, from a place on.
use Rattle.std.proofs.Common.{◌≡◌, ℕ, ◌+◌, ◌≤◌, Bool, true, false, List, ◌∷◌, drop, length, Option, Some, None}
use Rattle.std.proofs.Common.{sym, ap, ◌∙◌, ◌||◌}
use Rattle.std.proofs.lemmas.List.{drop_all, drop_more}
use Rattle.std.proofs.lemmas.Option.{get_or_from_slice_get, slice_get_within}
use Rattle.std.specs.Prelude.{slice_get}
use Rattle.std.specs.List.{cons_option, filter_map, list_any}

-- what is left from a place on
left_from : {X : Type 0} (xs : List X) (i : ℕ) (x : X) → slice_get xs i ≡ Some x → drop i xs ≡ x ∷ drop (i + 1) xs
left_from {X} xs i x is =
    drop_more xs i x (slice_get_within xs i x is)
    ∙ ap (λ (y : X). y ∷ drop (i + 1) xs) (get_or_from_slice_get xs i x x is)

pub any_here : {X : Type 0} (test : X → Bool) (xs : List X) (i : ℕ) (x : X) → slice_get xs i ≡ Some x
    → test x ≡ true → list_any test (drop i xs) ≡ true
any_here {X} test xs i x is passes =
    ap (λ (l : List X). list_any test l) (left_from xs i x is)
    ∙ ap (λ (b : Bool). b || list_any test (drop (i + 1) xs)) passes

pub any_later : {X : Type 0} (test : X → Bool) (xs : List X) (i : ℕ) (x : X) → slice_get xs i ≡ Some x
    → test x ≡ false → list_any test (drop (i + 1) xs) ≡ list_any test (drop i xs)
any_later {X} test xs i x is fails =
    sym (ap (λ (l : List X). list_any test l) (left_from xs i x is)
    ∙ ap (λ (b : Bool). b || list_any test (drop (i + 1) xs)) fails)

pub any_nowhere : {X : Type 0} (test : X → Bool) (xs : List X) (i : ℕ) → length xs ≤ i
    → list_any test (drop i xs) ≡ false
any_nowhere {X} test xs i past = ap (λ (l : List X). list_any test l) (drop_all i xs past)

pub first_here : {X Y : Type 0} (f : X → Option Y) (xs : List X) (i : ℕ) (x : X) (y : Y) → slice_get xs i ≡ Some x
    → f x ≡ Some y → slice_get (filter_map f (drop i xs)) 0 ≡ Some y
first_here {X} {Y} f xs i x y is gives =
    ap (λ (l : List X). slice_get (filter_map f l) 0) (left_from xs i x is)
    ∙ ap (λ (o : Option Y). slice_get (cons_option o (filter_map f (drop (i + 1) xs))) 0) gives

pub first_later : {X Y : Type 0} (f : X → Option Y) (xs : List X) (i : ℕ) (x : X) → slice_get xs i ≡ Some x
    → f x ≡ None → slice_get (filter_map f (drop (i + 1) xs)) 0 ≡ slice_get (filter_map f (drop i xs)) 0
first_later {X} {Y} f xs i x is gives =
    sym (ap (λ (l : List X). slice_get (filter_map f l) 0) (left_from xs i x is)
    ∙ ap (λ (o : Option Y). slice_get (cons_option o (filter_map f (drop (i + 1) xs))) 0) gives)

pub first_nowhere : {X Y : Type 0} (f : X → Option Y) (xs : List X) (i : ℕ) → length xs ≤ i
    → slice_get (filter_map f (drop i xs)) 0 ≡ None
first_nowhere {X} f xs i past = ap (λ (l : List X). slice_get (filter_map f l) 0) (drop_all i xs past)
