-- What is so of each of the things in a list, by its number, as of buses.
use Rattle.std.specs.Prelude.{◌≡◌, ℕ, ◌+◌, List, slice_get, Some}

-- it is so of each, where the first has the number n
abbrev pub Each : {X : Type 0} → (ℕ → X → Type 0) → ℕ → List X → Type 0
Each {X = X} P n xs = (k : ℕ) (x : X) → slice_get xs k ≡ Some x → P (n + k) x
