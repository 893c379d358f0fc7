-- A clock of a building as its callers see it.
use Rattle.std.specs.Prelude.{ℕ, [], ◌∷◌, ◌++◌, None, false}
use Rattle.buslink.specs.ClockLog.{ClockLog}

pub record ClockState (S : Type 0) : Type 0 where
  -- what became of it so far
  pub log : ClockLog
  -- the milliseconds from one moment to the next
  pub period : ℕ
  -- no moment before this one is given
  pub begins : ℕ
  -- no moment after this one is given
  pub until : ℕ
  -- what else ends it
  pub stop : S

-- a clock that was never asked; the moments that it is to give are not known
abbrev pub fresh_clock : {S : Type 0} → ℕ → ℕ → ℕ → S → ClockState S
fresh_clock period begins until stop = record {
  log = record { moments = None; given = []; asks = 0; gave_none = false };
  period = period;
  begins = begins;
  until = until;
  stop = stop;
}

-- one moment more was given
abbrev pub with_moment : {S : Type 0} → ℕ → ClockState S → ClockState S
with_moment moment clock = record clock { log = record clock.log { given = clock.log.given ++ moment ∷ [] } }
