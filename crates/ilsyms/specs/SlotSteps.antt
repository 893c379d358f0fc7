-- Which global variables are named, one external after another.
use Rattle.std.specs.Prelude.{◌≡◌, ℕ, ◌<◌, List, length, Bool, false, ◌||◌, get_or, Option, ◌==◌}
use Rattle.std.specs.Option.{option_map_or}

-- the number is there, and is that one
abbrev pub is_that : Option ℕ → ℕ → Bool
is_that wanted number = option_map_or (λ its. its == number) wanted false

-- those that pass are added
pub record AddsWhere (test : ℕ → Bool) (before after : List Bool) : Type 0 where
  pub many : length after ≡ length before
  pub each : (number : ℕ) → number < length before
      → get_or after number false ≡ (get_or before number false || test number)

-- for each of so many numbers whether it passes
pub record AreNamed (test : ℕ → Bool) (count : ℕ) (named : List Bool) : Type 0 where
  pub many : length named ≡ count
  pub each : (number : ℕ) → number < count → get_or named number false ≡ test number
