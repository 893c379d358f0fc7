-- The first item that a test holds of, from a place on.
use Rattle.std.proofs.Common.{◌≡◌, ℕ, ◌+◌, ◌≤◌, Bool, true, false, List, ◌∷◌, drop, length, Some, None, sym, ap, ◌∙◌}
use Rattle.std.proofs.lemmas.List.{drop_all, drop_more}
use Rattle.std.proofs.lemmas.Option.{get_or_from_slice_get, slice_get_within}
use Rattle.std.specs.Prelude.{find, if◌then◌else◌, slice_get}

-- what is left from a place on
left_from : {X : Type 0} (xs : List X) (i : ℕ) (x : X) → slice_get xs i ≡ Some x → drop i xs ≡ x ∷ drop (i + 1) xs
left_from {X} xs i x is =
    drop_more xs i x (slice_get_within xs i x is)
    ∙ ap (λ (y : X). y ∷ drop (i + 1) xs) (get_or_from_slice_get xs i x x is)

pub found_here : {X : Type 0} (test : X → Bool) (xs : List X) (i : ℕ) (x : X) → slice_get xs i ≡ Some x
    → test x ≡ true → find test (drop i xs) ≡ Some x
found_here {X} test xs i x is passes =
    ap (λ (l : List X). find test l) (left_from xs i x is)
    ∙ ap (λ (b : Bool). if b then Some x else find test (drop (i + 1) xs)) passes

pub found_later : {X : Type 0} (test : X → Bool) (xs : List X) (i : ℕ) (x : X) → slice_get xs i ≡ Some x
    → test x ≡ false → find test (drop (i + 1) xs) ≡ find test (drop i xs)
found_later {X} test xs i x is fails =
    sym (ap (λ (l : List X). find test l) (left_from xs i x is)
    ∙ ap (λ (b : Bool). if b then Some x else find test (drop (i + 1) xs)) fails)

pub found_nowhere : {X : Type 0} (test : X → Bool) (xs : List X) (i : ℕ) → length xs ≤ i
    → find test (drop i xs) ≡ None
found_nowhere {X} test xs i past = ap (λ (l : List X). find test l) (drop_all i xs past)
