-- What a request of a program is to the bus: its class, the frames that it spells, and whose answer it brings.
use Rattle.std.specs.Prelude.{ℕ, ◌<◌, ◌^◌, List, [], ◌∷◌, slice_index, Option, Some, None}
use Rattle.daliframe.specs.Limits.{most_buses}
use Rattle.daliframe.specs.declared.forward.Frame.{Frame}
use Rattle.daliframe.specs.declared.forward.Frame.TheVariants.{Forward16, Forward24}
use Rattle.daliframe.specs.declared.addressing.Address.TheVariants.{Short}
use Rattle.daliframe.specs.Addresses.{IsAddress}
use Rattle.daliframe.specs.EventSchemes.{scheme_number}
use Rattle.daliframe.specs.Frames.{level_frame, command_frame, dtr0_frame, dtr1_frame, device_frame, device_dtr0_frame}
use Rattle.gearcmd.specs.Commands.{gear_do_opcodes, gear_set_opcodes, gear_pair_opcodes, gear_ask_opcodes}
use Rattle.gearcmd.specs.Commands.{dev_do_opcodes, dev_ask_opcodes}
use Rattle.gearcmd.specs.declared.requests.Answerer.{Answerer}
use Rattle.gearcmd.specs.declared.requests.Answerer.TheVariants.{Gear, Instance}
use Rattle.gearcmd.specs.declared.requests.Request.{Request}
use Rattle.gearcmd.specs.declared.requests.Command.{Command}
use Rattle.gearcmd.specs.declared.requests.Command.TheVariants.{GearLevel, GearDo, GearSet, GearPair, GearAsk, GearRead}
use Rattle.gearcmd.specs.declared.requests.Command.TheVariants.{DevDo, DevScheme, DevAsk}
use Rattle.gearcmd.specs.declared.requests.TaskKind.{TaskKind}
use Rattle.gearcmd.specs.declared.requests.TaskKind.TheVariants.{Cyclic, Event}

-- the class of what an event task sends is above that of what a cyclic task sends (profile)
abbrev pub task_class : TaskKind → ℕ
task_class Event = 2
task_class Cyclic = 4

-- 3 for what is sent twice, 5 for queries and memory reads, else that of the task (profile)
abbrev pub class_of : Command → TaskKind → ℕ
class_of (GearLevel _ _) task = task_class task
class_of (GearDo _ _) task = task_class task
class_of (GearSet _ _ _) _ = 3
class_of (GearPair _ _) _ = 3
class_of (GearAsk _ _) _ = 5
class_of (GearRead _ _ _) _ = 5
class_of (DevDo _ _ _) _ = 3
class_of (DevScheme _ _ _) _ = 3
class_of (DevAsk _ _ _) _ = 5

-- a frame sent twice with no other between (IEC 62386-102 and -103, clause 9)
abbrev pub twice : Frame → List Frame
twice frame = frame ∷ frame ∷ []

-- READ MEMORY LOCATION reads bank DTR1 at offset DTR0 (IEC 62386-102, clause 11)
abbrev pub read_opcode : ℕ
read_opcode = 0xC5

-- SET EVENT SCHEME (profile)
abbrev pub set_event_scheme_opcode : ℕ
set_event_scheme_opcode = 0x67

-- the frames that a request spells, first to last (profile)
abbrev pub frames_of : Command → List Frame
frames_of (GearLevel address level) = Forward16 (level_frame address level) ∷ []
frames_of (GearDo address cmd) = Forward16 (command_frame address (slice_index gear_do_opcodes cmd)) ∷ []
frames_of (GearSet address cmd value) =
    Forward16 (dtr0_frame value) ∷ twice (Forward16 (command_frame address (slice_index gear_set_opcodes cmd)))
frames_of (GearPair address cmd) = twice (Forward16 (command_frame address (slice_index gear_pair_opcodes cmd)))
frames_of (GearAsk address cmd) = Forward16 (command_frame (Short address) (slice_index gear_ask_opcodes cmd)) ∷ []
frames_of (GearRead address bank offset) =
    Forward16 (dtr1_frame bank)
    ∷ Forward16 (dtr0_frame offset)
    ∷ Forward16 (command_frame (Short address) read_opcode)
    ∷ []
frames_of (DevDo address instance cmd) =
    twice (Forward24 (device_frame address instance (slice_index dev_do_opcodes cmd)))
frames_of (DevScheme address instance scheme) =
    Forward24 (device_dtr0_frame (scheme_number scheme))
    ∷ twice (Forward24 (device_frame address instance set_event_scheme_opcode))
frames_of (DevAsk address instance cmd) =
    Forward24 (device_frame address instance (slice_index dev_ask_opcodes cmd)) ∷ []

-- each part in the range of its port: CMD is the index of a command, and bytes are below 256 (profile)
abbrev pub IsCommand : Command → Type 0
IsCommand (GearLevel address level) = IsAddress address × (level < 2 ^ 8)
IsCommand (GearDo address cmd) = IsAddress address × (cmd < 26)
IsCommand (GearSet address cmd value) = IsAddress address × (cmd < 23) × (value < 2 ^ 8)
IsCommand (GearPair address cmd) = IsAddress address × (cmd < 50)
IsCommand (GearAsk address cmd) = (address < 64) × (cmd < 43)
IsCommand (GearRead address bank offset) = (address < 64) × (bank < 2 ^ 8) × (offset < 2 ^ 8)
IsCommand (DevDo address instance cmd) = (address < 64) × (instance < 32) × (cmd < 2)
IsCommand (DevScheme address instance scheme) = (address < 64) × (instance < 32)
IsCommand (DevAsk address instance cmd) = (address < 64) × (instance < 32) × (cmd < 3)

abbrev pub IsRequest : Request → Type 0
IsRequest r = (r.bus < most_buses) × IsCommand r.command

-- whose answer it brings: queries and memory reads are answered, and nothing else is (profile)
abbrev pub answerer_of : Command → Option Answerer
answerer_of (GearAsk address _) = Some (Gear address)
answerer_of (GearRead address _ _) = Some (Gear address)
answerer_of (DevAsk address instance _) = Some (Instance address instance)
answerer_of (GearLevel _ _) = None
answerer_of (GearDo _ _) = None
answerer_of (GearSet _ _ _) = None
answerer_of (GearPair _ _) = None
answerer_of (DevDo _ _ _) = None
answerer_of (DevScheme _ _ _) = None
