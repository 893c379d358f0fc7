-- What a history says of the scenario that it follows (profile).
use Rattle.std.specs.Prelude.{◌≡◌, ℕ, ◌<◌, List, ◌++◌, false, reverse}
use Rattle.std.specs.List.{filter_map}
use Rattle.buslink.specs.BusLog.{frames_in}
use Rattle.wordlines.specs.declared.statements.Statement.{Statement}
use Rattle.wordlines.specs.Happenings.{ticks}
use Rattle.simbus.specs.declared.scripts.ScriptedReply.{ScriptedReply}
use Rattle.simbus.specs.Setups.{arrival_on, reply_on}
use Rattle.simbus.specs.Simulated.{AreAnswered, IsAsSetUp, Simulated}
use Rattle.simbus.specs.Staged.{IsOnStage, equipment_of}
use Rattle.plantevents.specs.declared.event.Event.{Event}
use Rattle.plantevents.specs.Histories.{given_in, heard_in, is_down, sent_in}

-- the numbers of the events of a scenario on a bus, in the order of their lines
abbrev pub events_on : ℕ → List Statement → List ℕ
events_on bus scenario = frames_in (filter_map (arrival_on bus) scenario)

-- what a scenario says of the frames that are sent on a bus
abbrev pub script_of : ℕ → List Statement → List ScriptedReply
script_of bus scenario = filter_map (reply_on bus) scenario

-- what is heard on a bus are the first of the scenario's events there; and what became of each frame in a report is what
-- the scenario's script, gear and devices make of it after all frames before it
pub record IsBusFollowing (scenario : List Statement) (h : List Event) (bus : ℕ) : Type 0 where
  pub later : List ℕ
  pub heard : events_on bus scenario ≡ heard_in bus h ++ later
  pub answered : AreAnswered (equipment_of scenario bus) (script_of bus scenario) (reverse (sent_in bus h))

-- A history of so many buses follows a scenario: its moments are those of the scenario's first ticks, in their order, and
-- it follows it on each bus.
pub record FollowsScenario (scenario : List Statement) (count : ℕ) (h : List Event) : Type 0 where
  pub later : List ℕ
  pub ticks : ticks scenario ≡ given_in h ++ later
  pub buses : (b : ℕ) → b < count → IsBusFollowing scenario h b

-- it has all ticks of the scenario, and all events on each bus that is not down
pub record HasWholeScenario (scenario : List Statement) (count : ℕ) (h : List Event) : Type 0 where
  pub ticks : given_in h ≡ ticks scenario
  pub heard : (b : ℕ) → b < count → is_down b h ≡ false → heard_in b h ≡ events_on b scenario

-- the bus of this number of a scenario, whatever happened on it
pub record IsBusOf (scenario : List Statement) (b : ℕ) (bus : Simulated) : Type 0 where
  pub number : bus.log.number ≡ b
  pub stage : IsOnStage scenario bus
  pub happened : IsAsSetUp bus
