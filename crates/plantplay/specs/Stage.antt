-- Playing a scenario: what happens by its lines comes to a plant on its buses, one after another, and after each all is
-- done until nothing is left to do (IEC 61131-3, 2.7.2, and profile).
use Rattle.std.specs.Prelude.{◌≡◌, ◌⊎◌, ℕ, ◌<◌, ◌≤◌, List, [], ◌∷◌, ◌++◌, length, reverse, slice_set, Some}
use Rattle.buslink.specs.BusLog.{BusLog, after_arrival}
use Rattle.wordlines.specs.declared.happenings.Happening.{Happening}
use Rattle.wordlines.specs.declared.happenings.Happening.TheVariants.{Tick, Event, HearFault}
use Rattle.plantevents.specs.declared.event.Event.{Event as PlantEvent}
use Rattle.plant.specs.declared.refusal.CallRefusal.{CallRefusal}
use Rattle.plant.specs.Refusals.{first_refusal, tick_cases}
use Rattle.plant.specs.Shown.{Shown}
use Rattle.plantdriving.specs.Driven.{IsDriven, IsHeardFirst, IsStuck}
use Rattle.plantdriving.specs.Links.{IsLinked, log_of}
use Rattle.plantdriving.specs.Quiet.{IsQuiet}
use Rattle.plantdriving.specs.Ticks.{HasTicked}
use Rattle.plantplay.specs.declared.ending.Ending.{Ending}
use Rattle.plantplay.specs.declared.ending.Ending.TheVariants.{Whole, Limit, NoMemory}

-- a plant, with what became of its buses, by their numbers
pub record Stage : Type 0 where
  pub plant : Shown
  pub logs : List BusLog

-- ---- what comes

-- what comes next on a bus has come; where there is no such bus, nothing changes
abbrev pub arriving : ℕ → Stage → Stage
arriving b s = record s { logs = slice_set s.logs b (after_arrival (log_of s.logs b)) }

-- the plant did not refuse this moment, which came
pub record HasComeTo (m : ℕ) (s t : Stage) : Type 0 where
  pub plant : HasTicked m s.plant t.plant
  pub logs : t.logs ≡ s.logs

-- a moment comes, or what comes next on a bus
abbrev pub Comes : Happening → Stage → Stage → Type 0
Comes (Tick m) s t = HasComeTo m s t
Comes (Event b frame) s t = t ≡ arriving b s
Comes (HearFault b) s t = t ≡ arriving b s

-- ---- what follows

-- first each bus, in the order of their numbers, heard all that had come; then scans and buses had their turns, until
-- nothing was left to do
pub record HasSettled (s t : Stage) : Type 0 where
  pub heard : IsHeardFirst s.plant t.plant s.logs t.logs
  pub quiet : IsQuiet t.plant s.logs t.logs

-- it did, if there is such a bus, and else nothing follows
pub record HasSettledFor (b : ℕ) (s t : Stage) : Type 0 where
  pub settled : b < s.plant.plant.plan.buses → HasSettled s t
  pub same : s.plant.plant.plan.buses ≤ b → t ≡ s

-- a fault of hearing waits for the next call that hears
abbrev pub Settles : Happening → Stage → Stage → Type 0
Settles (Tick m) s t = HasSettled s t
Settles (Event b frame) s t = HasSettledFor b s t
Settles (HearFault b) s t = t ≡ s

abbrev pub Happens : Happening → Stage → Stage → Type 0
Happens happening s t = (came : Stage) × Comes happening s came × Settles happening came t

-- ---- all that happens

-- these happened, one after another, of which the last comes first
abbrev pub IsPlayedBy : List Happening → Stage → Stage → Type 0
IsPlayedBy [] s t = t ≡ s
IsPlayedBy (happening ∷ earlier) s t = (before : Stage) × IsPlayedBy earlier s before × Happens happening before t

-- the first of these came, if at all, and a part of what follows was done
abbrev pub IsBegun : List Happening → Stage → Stage → Type 0
IsBegun [] s t = t ≡ s
IsBegun (happening ∷ more) s t =
    (t ≡ s) ⊎ ((came : Stage) × Comes happening s came × IsDriven came.plant t.plant came.logs t.logs)

-- all of these happened but the rest, which was begun at most
pub record IsPlayedAsFar (all rest : List Happening) (s t : Stage) : Type 0 where
  pub done : List Happening
  pub order : all ≡ reverse done ++ rest
  pub between : Stage
  pub played : IsPlayedBy done s between
  pub begun : IsBegun rest between t

-- it was played so far, whatever is left
abbrev pub IsPlayedSomeFar : List Happening → Stage → Stage → Type 0
IsPlayedSomeFar all s t = (rest : List Happening) × IsPlayedAsFar all rest s t

-- ---- how it ends

-- it is a moment that the plant refuses
abbrev pub IsRefusedMoment : Happening → Shown → Type 0
IsRefusedMoment (Tick m) p = (refusal : CallRefusal) × (first_refusal (tick_cases p m) ≡ Some refusal)
IsRefusedMoment happening p = ⊥

-- so is the first of these
abbrev pub IsRefused : List Happening → Shown → Type 0
IsRefused [] p = ⊥
IsRefused (happening ∷ more) p = IsRefusedMoment happening p

-- All happened; or a turn of the plant or the next moment is refused, and so the rest did not happen; or the allocator
-- was out of memory.
abbrev pub IsPlayedTo : Ending → List Happening → Stage → Stage → Type 0
IsPlayedTo Whole all s t = IsPlayedAsFar all [] s t
IsPlayedTo Limit all s t =
    (rest : List Happening) × IsPlayedAsFar all rest s t × (IsStuck t.plant ⊎ IsRefused rest t.plant)
IsPlayedTo NoMemory all s t = IsPlayedSomeFar all s t

-- ---- buses and history

-- Since the first log the bus sent the attempts of its reports and nothing else, the history has what was heard there,
-- the bus went down as often as its interface failed, and came up as often as it was taken up again; whatever has come
-- meanwhile.
abbrev pub IsStillLinked : BusLog → ℕ → List PlantEvent → BusLog → Type 0
IsStillLinked first b h log = IsLinked (record first { arrivals = log.arrivals }) b h log

-- so it is of each bus
abbrev pub AreStillLinked : List BusLog → List PlantEvent → List BusLog → Type 0
AreStillLinked firsts h logs = (b : ℕ) → b < length logs → IsStillLinked (log_of firsts b) b h (log_of logs b)
