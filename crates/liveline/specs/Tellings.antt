-- How often it is told what becomes of a line (profile).
use Rattle.std.specs.Prelude.{ℕ, Bool, true, false, nat_lt, Option, Some, None}
use Rattle.std.specs.Time.{instant_nanos}
use Rattle.std.specs.declared.time.Instant.{Instant}
use Rattle.liveline.specs.Budgets.{millis_from}
use Rattle.liveline.specs.declared.told.Told.{Told}

-- in a minute in which so many lines were told it is not told that a line is down
abbrev pub most_lines : ℕ
most_lines = 6

-- the moment is in the minute that began then, where one began
abbrev pub is_in_minute : Option Instant → Instant → Bool
is_in_minute None now = false
is_in_minute (Some began) now = nat_lt (millis_from (instant_nanos began) (instant_nanos now)) 60000

-- of so many lines of a minute those that count at a moment: all where it is in this minute, else none
abbrev pub counted : Bool → ℕ → ℕ
counted true lines = lines
counted false lines = 0

-- how many lines were told in the minute of this moment
abbrev pub lines_in : Told → Instant → ℕ
lines_in told now = counted (is_in_minute told.minute now) told.lines
