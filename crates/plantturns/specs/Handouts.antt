-- How many transactions are handed out between the calls that hear.
use Rattle.std.specs.Prelude.{◌≡◌, ◌⊎◌, ℕ, ◌+◌, ◌-◌, ◌^◌, ◌≤◌, List, [], ◌∷◌}
use Rattle.buslink.specs.BusLog.{BusLog}
use Rattle.plantevents.specs.declared.event.Event.{Event}
use Rattle.plantevents.specs.declared.event.Event.TheVariants.{Hand}
use Rattle.plantevents.specs.Parts.{Placed, shown_downs}
use Rattle.plantdriving.specs.Links.{HasHeard}
use Rattle.plantlock.specs.Receipts.{ShareParts, whole}

-- how many transactions a bus was handed
abbrev pub handouts_by : Event → ℕ → ℕ
handouts_by (Hand b origin transaction) before = before + 1
handouts_by e before = before

abbrev pub shown_handouts : List Placed → ℕ
shown_handouts [] = 0
shown_handouts (newest ∷ older) = handouts_by newest.event (shown_handouts older)

-- none was handed out meanwhile, and no call that heard is forgotten
pub record HasHandedNone (s t : ShareParts) (log after : BusLog) : Type 0 where
  pub same : shown_handouts (whole t) ≡ shown_handouts (whole s)
  pub downs : shown_downs (whole s) ≤ shown_downs (whole t)
  pub hears : HasHeard log after

-- Meanwhile the bus was handed no more transactions than it was asked to hear and went down, and so many more. Its count
-- of calls that heard is kept at 2^64 - 1 once there.
pub record AreFollowed (more : ℕ) (s t : ShareParts) (log after : BusLog) : Type 0 where
  pub hears : HasHeard log after
  pub few : (after.hears ≡ 2 ^ 64 - 1)
      ⊎ (shown_handouts (whole t) + log.hears + shown_downs (whole s)
      ≤ shown_handouts (whole s) + after.hears + shown_downs (whole t) + more)
