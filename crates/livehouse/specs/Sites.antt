-- Buses and a clock that were just made: nothing became of them yet.
use Rattle.std.specs.Prelude.{◌≡◌, ◌^◌, ◌+◌, ◌-◌, ◌*◌, ℕ, [], List, Option, Some, None, length, max, min, option_map}
use Rattle.buslink.specs.BusLog.{BusLog}
use Rattle.buslink.specs.ClockLog.{ClockLog}
use Rattle.buslink.specs.Each.{Each}
use Rattle.ilplan.specs.Plans.{Planned}
use Rattle.commandoptions.specs.declared.line_word.LineWord.{LineWord}
use Rattle.plantlive.specs.Periods.{IsPeriod}
use Rattle.livehouse.specs.Lineups.{IsLineFor}

-- a bus of this number on which nothing was sent or heard, whose interface never failed, and which was never taken up
-- again
pub record IsNewBus (bus : ℕ) (log : BusLog) : Type 0 where
  pub number : log.number ≡ bus
  pub sent : log.sent ≡ []
  pub heard : log.heard ≡ []
  pub failures : log.failures ≡ 0
  pub mends : log.mends ≡ 0

-- these are the paths of the word: the one that is read, and the one that is written where that is another one
abbrev pub ArePathsOf : LineWord → List ℕ → Option (List ℕ) → Type 0
ArePathsOf word from to = (from ≡ word.from.now) × (to ≡ option_map (λ path. path.now) word.to)

-- a clock that gave no moment
pub record IsNewClock (log : ClockLog) : Type 0 where
  pub given : log.given ≡ []

-- new buses of the numbers below this one, in their order
pub record AreNewBuses {B : Type 0} (bus_log : B → BusLog) (many : ℕ) (buses : List B) : Type 0 where
  pub count : length buses ≡ many
  pub each : Each (λ b bus. IsNewBus b (bus_log bus)) 0 buses

-- this bus is behind the line that a word names for the bus of this number, with so many milliseconds of patience
abbrev pub IsReached : {B : Type 0} → (B → LineWord → ℕ → Type 0) → List LineWord → ℕ → ℕ → B → Type 0
IsReached is_of words patience number bus =
    (word : LineWord) × IsLineFor number words word × is_of bus word patience

-- each of the buses, in the order of their numbers, is behind the line that a word names for it
abbrev pub AreReached : {B : Type 0} → (B → LineWord → ℕ → Type 0) → List LineWord → ℕ → List B → Type 0
AreReached is_of words patience buses = Each (λ number bus. IsReached is_of words patience number bus) 0 buses

-- the milliseconds from one tick to the next: those that were asked for, one at the least, else those that suit the plan
abbrev pub IsPeriodFor : Planned → Option ℕ → ℕ → Type 0
IsPeriodFor plan (Some asked) period = period ≡ max asked 1
IsPeriodFor plan None period = IsPeriod plan period

-- no clock gives a moment after this one
abbrev pub last_moment : ℕ
last_moment = 2 ^ 64 - 1

-- the last moment of a clock that begins at this one, in milliseconds: the end of the seconds that were asked for, else
-- there is none
abbrev pub moment_of_end : ℕ → Option ℕ → ℕ
moment_of_end begins (Some seconds) = min (begins + seconds * 1000) last_moment
moment_of_end begins None = last_moment
