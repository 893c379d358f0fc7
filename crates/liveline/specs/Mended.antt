-- A bus behind a line that is opened anew, as its callers see it.
use Rattle.std.specs.Prelude.{◌≡◌, ◌⊎◌, ℕ, ◌+◌, Bool, true, false, Option, Some, Result, Ok}
use Rattle.buslink.specs.BusLog.{BusLog}

-- as many frames as an interface keeps
abbrev pub most_kept : ℕ
most_kept = 256

-- what a line was given when it was begun, which stays with it
pub record Setting (O T : Type 0) : Type 0 where
  -- who opens it
  pub opener : O
  -- who tells what becomes of it
  pub teller : T
  -- the milliseconds that its interface has for all answers of one transaction together
  pub patience : ℕ

pub record MendedState (O T : Type 0) : Type 0 where
  -- what became of the bus so far
  pub log : BusLog
  -- whether there is a line, and each request on it so far was answered as it should be
  pub is_in_step : Bool
  -- how many frames were heard since the building's end was asked for
  pub heard_last : ℕ
  -- when the first frame of the transaction was asked for, where one was, in nanoseconds of the machine's timer
  pub began : Option ℕ
  pub set : Setting O T

-- a frame counts exactly where the teller, asked whether the end was asked for, answered that it was
abbrev pub IsLastCounted : (Bool → Type 0) → ℕ → ℕ → Type 0
IsLastCounted answers before now = (answers true × (now ≡ before + 1)) ⊎ (answers false × (now ≡ before))

-- nothing but a frame that was heard counts
abbrev pub IsCounted : {E : Type 0} → (Bool → Type 0) → Result (Option ℕ) E → ℕ → ℕ → Type 0
IsCounted answers (Ok (Some frame)) before now = IsLastCounted answers before now
IsCounted answers _ before now = now ≡ before
