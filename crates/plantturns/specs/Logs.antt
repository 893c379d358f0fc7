-- Between two turns nothing is open, and the receipts of a Share are what went over its link.
use Rattle.std.specs.Prelude.{◌≡◌, ℕ, ◌≤◌, [], ◌++◌, None, true, false}
use Rattle.plantevents.specs.declared.role.Role.TheVariants.{Worker, Bus, Clock}
use Rattle.plantevents.specs.Parts.{shown_moment, shown_scan, shown_hand, shown_sent, shown_heard, shown_downs}
use Rattle.plantevents.specs.Parts.{shown_ups, shown_given}
use Rattle.buslink.specs.BusLog.{BusLog, one_more}
use Rattle.buslink.specs.ClockLog.{ClockLog, HasGivenAll, IsNotBefore}
use Rattle.plantdriving.specs.Links.{HasGrown, IsNoLess, so_many_more}
use Rattle.plantlock.specs.Receipts.{ShareParts, whole}

abbrev pub no_moment : ClockLog
no_moment = record { moments = None; given = []; asks = 0; gave_none = false }

-- ---- between two turns

-- the Share of this scan worker, which has no scan open
pub record IsWorker (worker : ℕ) (s : ShareParts) : Type 0 where
  pub role : s.role ≡ Worker worker
  pub idle : shown_scan (whole s) ≡ None

-- The Share of this bus, which has no transaction open: what the bus sent and heard since the first log is what the
-- part says, it failed as often as the part says that it went down, it was taken up as often as the part says that it
-- came up, and its count of calls that heard is no less. It is the same bus, and nothing came on it meanwhile.
pub record IsServed (first : BusLog) (bus : ℕ) (s : ShareParts) (log : BusLog) : Type 0 where
  pub role : s.role ≡ Bus bus
  pub idle : shown_hand (whole s) ≡ None
  pub number : log.number ≡ first.number
  pub arrivals : log.arrivals ≡ first.arrivals
  pub sent : log.sent ≡ first.sent ++ shown_sent (whole s)
  pub heard : log.heard ≡ first.heard ++ shown_heard (whole s)
  pub failed : log.failures ≡ so_many_more (shown_downs (whole s)) first.failures
  pub mended : log.mends ≡ so_many_more (shown_ups (whole s)) first.mends
  pub hears : IsNoLess first.hears log.hears

-- the same, but for one failure more: the bus is to go down
pub record HasFailed (first : BusLog) (bus : ℕ) (s : ShareParts) (log : BusLog) : Type 0 where
  pub role : s.role ≡ Bus bus
  pub idle : shown_hand (whole s) ≡ None
  pub number : log.number ≡ first.number
  pub arrivals : log.arrivals ≡ first.arrivals
  pub sent : log.sent ≡ first.sent ++ shown_sent (whole s)
  pub heard : log.heard ≡ first.heard ++ shown_heard (whole s)
  pub failed : log.failures ≡ one_more (so_many_more (shown_downs (whole s)) first.failures)
  pub mended : log.mends ≡ so_many_more (shown_ups (whole s)) first.mends
  pub hears : IsNoLess first.hears log.hears

-- a moment that the clock may give is not below the one that the part shows
abbrev pub IsInTime : ShareParts → ClockLog → Type 0
IsInTime s log = (m : ℕ) → IsNotBefore m log → shown_moment (whole s) ≤ m

-- the Share of the clock: what the clock gave since the first log is what the part says, and its count of calls is no
-- less
pub record IsTimed (first : ClockLog) (s : ShareParts) (log : ClockLog) : Type 0 where
  pub role : s.role ≡ Clock
  pub moments : log.moments ≡ first.moments
  pub given : log.given ≡ first.given ++ shown_given (whole s)
  pub in_time : IsInTime s log
  pub asks : IsNoLess first.asks log.asks

-- the clock came to its end: it was asked since the first log, when it was asked last it gave no moment, and where it is
-- known what it is to give it gave all of that
pub record HasEnded (first log : ClockLog) : Type 0 where
  pub grown : HasGrown first.asks log.asks
  pub none : log.gave_none ≡ true
  pub all : HasGivenAll log
