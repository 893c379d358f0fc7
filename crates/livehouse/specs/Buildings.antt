-- A building: what it is before it runs, what it comes to, and what stands against it (profile).
use Rattle.std.specs.Prelude.{◌≡◌, ℕ, IsSome, List, Option, option_map, ⊤}
use Rattle.std.specs.Int.NonZero.{non_zero_u64_get}
use Rattle.std.specs.Arc.{arc_value}
use Rattle.buslink.specs.BusLog.{BusLog}
use Rattle.buslink.specs.ClockLog.{ClockLog}
use Rattle.ilcompile.specs.Loaded.{Loaded}
use Rattle.plant.specs.declared.open_fault.OpenFault.TheVariants.{Limit}
use Rattle.plant.specs.Shown.{IsRoomy}
use Rattle.commandoptions.specs.declared.line_word.LineWord.{LineWord}
use Rattle.commandoptions.specs.declared.live_options.LiveOptions.{LiveOptions}
use Rattle.commandoptions.specs.declared.live_options.RunSize.{RunSize}
use Rattle.plant.specs.declared.start_fault.StartFault.TheVariants.{Memory, Plant}
use Rattle.plantlive.specs.Starts.{IsStartFault}
use Rattle.plantlive.specs.declared.living.Lived.{Lived}
use Rattle.plantlive.specs.Lives.{HasLived}
use Rattle.livehouse.specs.declared.buildings.Building.{Building}
use Rattle.livehouse.specs.declared.stops.LiveStop.{LiveStop}
use Rattle.livehouse.specs.declared.stops.LiveStop.TheVariants.{Ended, Lineup, NoClock, Start}
use Rattle.livehouse.specs.Lineups.{AreLinesOf, IsLineupFault}
use Rattle.livehouse.specs.Sites.{AreNewBuses, AreReached, IsNewClock, IsPeriodFor, moment_of_end}

-- ---- before it runs

-- The building of this setup: each bus has its line, the one of the word that names the bus, with the patience that was
-- asked for, and nothing was sent or heard on it. The clock gave no moment yet; it begins at this one, has the period and
-- the end that were asked for, and ends where a bus goes down if that is.
pub record IsOpened {B C : Type 0} (bus_log : B → BusLog) (clock_log : C → ClockLog)
    (is_of : B → LineWord → ℕ → Type 0) (is_timed : C → ℕ → ℕ → ℕ → Option (List ℕ) → Type 0) (of : Loaded)
    (words : List LineWord) (options : LiveOptions) (begins : ℕ) (building : Building B C) : Type 0 where
  pub setup : building.setup ≡ of
  pub size : building.size ≡ options.size
  pub lines : AreLinesOf of.plan.buses words
  pub buses : AreNewBuses bus_log of.plan.buses building.buses.items
  pub reached : AreReached is_of words options.patience building.buses.items
  pub clock : IsNewClock (clock_log building.clock)
  pub period : IsPeriodFor of.plan options.period (non_zero_u64_get building.period)
  pub timed : is_timed building.clock (non_zero_u64_get building.period) begins (moment_of_end begins options.seconds)
      (option_map (λ path. path.now) options.stop)
  -- it ends where a bus goes down exactly if that is asked for
  pub watch : (arc_value building.watch).ends ≡ options.ends_on_down

-- ---- what stands against it

-- the words are not the lines of the buses; else the limit is too low for so many buses, or the clock cannot be read, or
-- its end has come before its first moment, which is so only where a path for that was given; the allocator may be out of
-- memory. That a line is not there stands against no building.
abbrev pub IsLiveStop : Loaded → List LineWord → LiveOptions → LiveStop → Type 0
IsLiveStop setup words options (Lineup fault) = IsLineupFault setup.plan.buses words fault
IsLiveStop setup words options NoClock = AreLinesOf setup.plan.buses words
IsLiveStop setup words options Ended = AreLinesOf setup.plan.buses words × IsSome options.stop
IsLiveStop setup words options (Start Memory) = ⊤
IsLiveStop setup words options (Start (Plant fault)) =
    AreLinesOf setup.plan.buses words × (fault ≡ Limit) × ¬ IsRoomy setup.plan.buses options.size.limit

-- a building with so many lines does not run: its plant does not start
abbrev pub IsNotLived : Loaded → RunSize → ℕ → LiveStop → Type 0
IsNotLived setup size buses (Start (Plant fault)) = IsStartFault setup size.workers buses size.limit fault
IsNotLived setup size buses _ = ⊥
