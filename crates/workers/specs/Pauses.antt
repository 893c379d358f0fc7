-- How long an idle worker sleeps, in microseconds (profile).
use Rattle.std.specs.Prelude.{ℕ, ◌*◌, ◌≤◌, min}

abbrev pub shortest : ℕ
shortest = 50

abbrev pub longest : ℕ
longest = 5_000

-- no sleep is shorter or longer
pub record IsSleep (micros : ℕ) : Type 0 where
  pub least : shortest ≤ micros
  pub most : micros ≤ longest

-- each is twice as long as the one before, up to the longest
abbrev pub next_sleep : ℕ → ℕ
next_sleep micros = min (micros * 2) longest
