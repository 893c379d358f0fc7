-- The time that an interface has for all answers of one transaction together (profile).
use Rattle.std.specs.Prelude.{◌≡◌, ℕ, ◌-◌, ◌/◌, Bool, false, nat_lt, Option, Some, None}
use Rattle.std.specs.Time.{instant_nanos}
use Rattle.std.specs.declared.time.Instant.{Instant}
use Rattle.liveline.specs.declared.budget.Budget.{Budget}

abbrev pub budget : ℕ → Option Instant → Bool → Budget
budget patience began is_slow = record { patience = patience; began = began; is_slow = is_slow }

-- the moment of the first frame of a transaction, of which one is asked for now
abbrev pub first_moment : Option Instant → Instant → Instant
first_moment None now = now
first_moment (Some began) now = began

-- the whole milliseconds from one moment to another, both in nanoseconds; 0 where the other is before
abbrev pub millis_from : ℕ → ℕ → ℕ
millis_from from to = (to - from) / 1000000

-- what is left of so many milliseconds that began at the first of these moments, at the second one
abbrev pub millis_left : ℕ → ℕ → ℕ → ℕ
millis_left patience began now = patience - millis_from began now

-- more than half of so many milliseconds is used, where their time began
abbrev pub is_over_half : ℕ → Option Instant → Instant → Bool
is_over_half patience None now = false
is_over_half patience (Some began) now = nat_lt (patience / 2) (millis_from (instant_nanos began) (instant_nanos now))
