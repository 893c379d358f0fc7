-- A simulated bus as its callers see it.
use Rattle.std.specs.Prelude.{◌≡◌, ℕ, ◌+◌, ◌==◌, Option, Some, None, option_map, Result, Ok, IsErr, List, [], ⊤}
use Rattle.std.specs.Prelude.{◌∷◌, length, reverse, find, drop, ◌++◌}
use Rattle.daliframe.specs.declared.forward.Frame.{Frame}
use Rattle.buslink.specs.declared.marks.Mark.{Mark}
use Rattle.buslink.specs.declared.marks.Mark.TheVariants as mark
use Rattle.buslink.specs.declared.marks.Reply.{Reply}
use Rattle.buslink.specs.declared.marks.Reply.TheVariants as reply
use Rattle.buslink.specs.declared.marks.Sent.{Sent}
use Rattle.buslink.specs.Marks.{mark_of}
use Rattle.buslink.specs.declared.arrivals.Arrival.{Arrival}
use Rattle.buslink.specs.declared.arrivals.Arrival.TheVariants as arrival
use Rattle.buslink.specs.declared.faults.Fault.{Fault}
use Rattle.buslink.specs.BusLog.{Arrivals, BusLog, after_arrival, after_all_arrivals, after_hear, frames_in}
use Rattle.buslink.specs.BusLog.{new_log}
use Rattle.wordlines.specs.declared.statements.FrameFate.{FrameFate}
use Rattle.wordlines.specs.declared.statements.FrameFate.TheVariants as fate
use Rattle.simbus.specs.declared.scripts.ScriptedReply.{ScriptedReply}
use Rattle.simbus.specs.declared.setups.BusSetup.{BusSetup}
use Rattle.simbus.specs.Histories.{Setup, answer_of}

pub record Simulated : Type 0 where
  -- what is on the bus
  pub setup : Setup
  -- what becomes of frames by their place
  pub script : List ScriptedReply
  -- what the next calls that hear will meet
  pub waiting : List Arrival
  -- what became of the bus so far
  pub log : BusLog

-- what is on a bus, of what a scenario says of it
abbrev pub setup_in : BusSetup → Setup
setup_in setup = record { gears = setup.gears.items; memory = setup.memory.items; instances = setup.instances.items }

-- a bus with this number, on which nothing happened
abbrev pub new_bus : ℕ → Setup → List ScriptedReply → List Arrival → Simulated
new_bus number setup script arrivals = record {
  setup = setup;
  script = script;
  waiting = [];
  log = new_log number (Some (record { come = []; later = arrivals }));
}

-- what the script says of the frame at a place, from 1
abbrev pub fate_at : List ScriptedReply → ℕ → Option FrameFate
fate_at script place =
    option_map (λ (r : ScriptedReply). r.fate) (find (λ (r : ScriptedReply). r.place == place) script)

-- what a frame comes to where the gear and devices would answer this
abbrev pub SendsBy : Option FrameFate → Reply → Result Reply Fault → Type 0
SendsBy None answer result = result ≡ Ok answer
SendsBy (Some fate.Lost) answer result = result ≡ Ok reply.Lost
SendsBy (Some fate.Damaged) answer result = result ≡ Ok reply.Damaged
SendsBy (Some fate.Fault) answer result = IsErr result

-- what the next frame comes to: the script goes before the answer of gear and devices after all frames so far
abbrev pub Sends : Simulated → Frame → Result Reply Fault → Type 0
Sends bus frame result =
    SendsBy (fate_at bus.script (length bus.log.sent + 1)) (answer_of bus.setup (reverse bus.log.sent) frame) result

-- what the next call that hears meets
abbrev pub Hears : List Arrival → Result (Option ℕ) Fault → Type 0
Hears [] result = result ≡ Ok None
Hears (arrival.Frame frame ∷ more) result = result ≡ Ok (Some frame)
Hears (arrival.Fault ∷ more) result = IsErr result

-- the bus after that call
abbrev pub after_hearing : Result (Option ℕ) Fault → Simulated → Simulated
after_hearing result bus = record bus { waiting = drop 1 bus.waiting; log = after_hear result bus.log }

-- ---- what comes

-- what is to come, where that is known
abbrev pub later_in : Option Arrivals → List Arrival
later_in None = []
later_in (Some arrivals) = arrivals.later

-- the next of what is to come has come
abbrev pub arrived_by : List Arrival → Simulated → Simulated
arrived_by [] bus = bus
arrived_by (next ∷ more) bus = record bus { waiting = bus.waiting ++ next ∷ []; log = after_arrival bus.log }

abbrev pub arrived : Simulated → Simulated
arrived bus = arrived_by (later_in bus.log.arrivals) bus

-- all that is to come has come
abbrev pub all_arrived : Simulated → Simulated
all_arrived bus =
    record bus { waiting = bus.waiting ++ later_in bus.log.arrivals; log = after_all_arrivals bus.log }

-- ---- what happened

-- what becomes of a frame where the gear and devices would answer this
abbrev pub mark_by : Option FrameFate → Reply → Mark
mark_by None answer = mark_of answer
mark_by (Some fate.Lost) answer = mark.Lost
mark_by (Some fate.Damaged) answer = mark.Damaged
mark_by (Some fate.Fault) answer = mark.Failed

-- what becomes of a frame after these, of which the last comes first
abbrev pub due_mark : Setup → List ScriptedReply → List Sent → Frame → Mark
due_mark setup script earlier frame =
    mark_by (fate_at script (length earlier + 1)) (answer_of setup earlier frame)

-- so it became of each of these frames, of which the last comes first
abbrev pub AreAnswered : Setup → List ScriptedReply → List Sent → Type 0
AreAnswered setup script [] = ⊤
AreAnswered setup script (s ∷ earlier) =
    (s.mark ≡ due_mark setup script earlier s.frame) × AreAnswered setup script earlier

-- What was heard is what has come and no longer waits, and what became of each frame is what the script, the gear and
-- the devices make of it.
pub record IsAsSetUp (bus : Simulated) : Type 0 where
  pub met : List Arrival
  pub later : List Arrival
  pub arrivals : bus.log.arrivals ≡ Some (record { come = met ++ bus.waiting; later = later })
  pub heard : bus.log.heard ≡ frames_in met
  pub answered : AreAnswered bus.setup bus.script (reverse bus.log.sent)
