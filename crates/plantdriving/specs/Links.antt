-- What went over a link goes with a history: each bus sent the attempts of its reports, and the history has what was
-- heard there (IEC 62386-101, and profile).
use Rattle.std.specs.Prelude.{◌≡◌, ◌⊎◌, ℕ, zero, suc, ◌-◌, ◌^◌, ◌<◌, ◌≤◌, min, List, ◌++◌, None}
use Rattle.std.specs.Prelude.{Vec, map, slice_index_or}
use Rattle.buslink.specs.BusLog.{BusLog, IsSameBus, new_log, one_more}
use Rattle.buslink.specs.Each.{Each}
use Rattle.plantevents.specs.declared.event.Event.{Event}
use Rattle.plantevents.specs.Histories.{sent_in, heard_in, downs_in, ups_in}

-- ---- the logs of buses, by their numbers

abbrev pub no_frame : BusLog
no_frame = new_log 0 None

-- the log of a bus among these
abbrev pub log_of : List BusLog → ℕ → BusLog
log_of logs bus = slice_index_or logs bus no_frame

-- the logs of the buses that these lines lead to, by the log that a line has
abbrev pub logs : {B Z : Type 0} → (B → BusLog) → Vec B Z → List BusLog
logs log lines = map log lines.items

-- a count after so many more, modulo 2^64
abbrev pub so_many_more : ℕ → ℕ → ℕ
so_many_more zero count = count
so_many_more (suc more) count = one_more (so_many_more more count)

-- ---- counts of calls, which are kept at 2^64 - 1 once there

-- a count is no less than it was first
abbrev pub IsNoLess : ℕ → ℕ → Type 0
IsNoLess first now = min first (2 ^ 64 - 1) ≤ now

-- there was a call since: the count is above what it was first, or it is kept
abbrev pub HasGrown : ℕ → ℕ → Type 0
HasGrown first now = (now ≤ 2 ^ 64 - 1) × ((first < now) ⊎ (now ≡ 2 ^ 64 - 1))

-- the bus was asked to hear since the first log
abbrev pub IsAsked : BusLog → BusLog → Type 0
IsAsked first log = HasGrown first.hears log.hears

-- or it was not
abbrev pub HasHeard : BusLog → BusLog → Type 0
HasHeard first log = (log.hears ≡ first.hears) ⊎ IsAsked first log

-- ---- a link and a history

-- since the first log this bus sent the attempts of its reports in the history, one after another, and no other frame;
-- the history has just the frames that were heard there; it went down as often as its interface failed, and came up as
-- often as it was taken up again
pub record IsLinked (first : BusLog) (bus : ℕ) (h : List Event) (log : BusLog) : Type 0 where
  pub same : IsSameBus first log
  pub sent : log.sent ≡ first.sent ++ sent_in bus h
  pub heard : log.heard ≡ first.heard ++ heard_in bus h
  pub failed : log.failures ≡ so_many_more (downs_in bus h) first.failures
  pub mended : log.mends ≡ so_many_more (ups_in bus h) first.mends

-- so it is of each bus
abbrev pub AreLinked : List BusLog → List Event → List BusLog → Type 0
AreLinked firsts h logs = Each (λ b log. IsLinked (log_of firsts b) b h log) 0 logs
