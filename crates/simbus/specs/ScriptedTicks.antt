-- A clock that gives the ticks of a scenario, as its callers see it.
use Rattle.std.specs.Prelude.{◌≡◌, ℕ, false, Option, Some, None, List, [], ◌∷◌, ◌++◌, drop}
use Rattle.buslink.specs.ClockLog.{ClockLog, after_now}

pub record ScriptedTicks : Type 0 where
  -- the moments that are still to come
  pub later : List ℕ
  -- what was given so far
  pub log : ClockLog

-- a clock that was never asked
abbrev pub new_clock : List ℕ → ScriptedTicks
new_clock moments = record {
  later = moments;
  log = record { moments = Some moments; given = []; asks = 0; gave_none = false };
}

-- the first of the moments that are still to come, where there is one
abbrev pub next_moment : List ℕ → Option ℕ
next_moment [] = None
next_moment (moment ∷ more) = Some moment

-- the clock after it was asked
abbrev pub after_tick : ScriptedTicks → ScriptedTicks
after_tick clock = record { later = drop 1 clock.later; log = after_now (next_moment clock.later) clock.log }

-- what was given and what is still to come are all that it is to give
pub record IsByScript (clock : ScriptedTicks) : Type 0 where
  pub moments : clock.log.moments ≡ Some (clock.log.given ++ clock.later)
