-- What holds of each item below a place and of the item there holds of each item below the next place.
use Rattle.std.proofs.Common.{◌≡◌, ℕ, ◌+◌, ◌<◌, inl, inr, List, length, slice_index_or, subst, sym, arith}
use Rattle.std.proofs.lemmas.Bool.{cases_eq}
use Rattle.std.proofs.lemmas.Option.{get_or_from_slice_get, slice_get-get_or}

pub each_below : {X : Type 0} (P : X → Type 0) (xs : List X) (n : ℕ) (o : X) → n < length xs
    → ((k : ℕ) (d : X) → k < n → P (slice_index_or xs k d)) → P (slice_index_or xs n o)
    → (k : ℕ) (d : X) → k < n + 1 → P (slice_index_or xs k d)
each_below P xs n o within before at k d below =
    elim (cases_eq k n) [
      | inl is ↦
          subst (λ (j : ℕ). P (slice_index_or xs j d)) (sym is)
          (subst P (sym (get_or_from_slice_get xs n (slice_index_or xs n o) d (slice_get-get_or xs n o within))) at)
      | inr other ↦ before k d (omega (arith, below, other))
    ]
