-- The simulated bus as a function of the list of all frames that were sent on it, each with what became of it. The
-- lists here begin with the last frame.
use Rattle.std.specs.Prelude.{◌≡◌, ℕ, ◌+◌, ◌%◌, ◌==◌, Bool, true, false, ◌&&◌, if◌then◌else◌, Option, option_map, find}
use Rattle.std.specs.Prelude.{List, [], ◌∷◌, ◌++◌}
use Rattle.std.specs.List.{filter_map}
use Rattle.daliframe.specs.declared.forward.Frame.{Frame}
use Rattle.daliframe.specs.declared.forward.Frame.TheVariants.{Forward16, Forward24}
use Rattle.buslink.specs.declared.marks.Mark.{Mark}
use Rattle.buslink.specs.declared.marks.Mark.TheVariants.{Quiet, Answer, Damaged, Lost, Failed}
use Rattle.buslink.specs.declared.marks.Reply.{Reply}
use Rattle.buslink.specs.declared.marks.Sent.{Sent}
use Rattle.simbus.specs.declared.gears.Gear.{Gear}
use Rattle.simbus.specs.declared.gears.GearVariables.{GearVariables}
use Rattle.simbus.specs.declared.gears.MemoryByte.{MemoryByte}
use Rattle.simbus.specs.declared.instances.InputInstance.{InputInstance}
use Rattle.simbus.specs.declared.instances.InstanceVariables.{InstanceVariables}
use Rattle.simbus.specs.Gears.{start_variables, after_frame}
use Rattle.simbus.specs.Answers.{gear_answer, reply_of}
use Rattle.simbus.specs.Instances.{variables_of, instance_after_frame, dtr0_after_frame, instance_answer}

-- a frame that was lost, or at which the bus interface failed, reached nobody
abbrev pub is_reached : Mark → Bool
is_reached Quiet = true
is_reached (Answer byte) = true
is_reached Damaged = true
is_reached Lost = false
is_reached Failed = false

-- equal frames have the same width and the same bits
abbrev pub same_frame : Frame → Frame → Bool
same_frame (Forward16 a) (Forward16 b) = a == b
same_frame (Forward16 a) (Forward24 b) = false
same_frame (Forward24 a) (Forward16 b) = false
same_frame (Forward24 a) (Forward24 b) = a == b

-- how often this frame came last: the length of the longest run of it, which any other, lost or failed frame ends
abbrev pub run_of : Frame → List Sent → ℕ
run_of frame [] = 0
run_of frame (s ∷ earlier) = if is_reached s.mark && same_frame s.frame frame then run_of frame earlier + 1 else 0

-- a frame acts as a pair at the second, fourth, .. place of its run
abbrev pub is_pair : Frame → List Sent → Bool
is_pair frame earlier = (run_of frame earlier + 1) % 2 == 0

-- the variables of gear
abbrev pub gear_variables : Gear → List Sent → GearVariables
gear_variables gear [] = start_variables gear.start
gear_variables gear (s ∷ earlier) =
    if is_reached s.mark then after_frame (is_pair s.frame earlier) gear.address s.frame (gear_variables gear earlier)
    else gear_variables gear earlier

-- DTR0 of the control devices
abbrev pub device_dtr0 : List Sent → ℕ
device_dtr0 [] = 0
device_dtr0 (s ∷ earlier) =
    if is_reached s.mark then dtr0_after_frame s.frame (device_dtr0 earlier) else device_dtr0 earlier

-- the variables of an instance
abbrev pub instance_variables : InputInstance → List Sent → InstanceVariables
instance_variables instance [] = variables_of instance
instance_variables instance (s ∷ earlier) =
    if is_reached s.mark
    then instance_after_frame (is_pair s.frame earlier) (device_dtr0 earlier) instance s.frame
    (instance_variables instance earlier)
    else instance_variables instance earlier

-- what is on a simulated bus
pub record Setup : Type 0 where
  pub gears : List Gear
  pub memory : List MemoryByte
  pub instances : List InputInstance

-- the answers to a frame, after these frames
abbrev pub answers : Setup → List Sent → Frame → List ℕ
answers setup earlier frame =
    filter_map (λ (gear : Gear). gear_answer setup.memory frame gear (gear_variables gear earlier)) setup.gears
    ++ filter_map
    (λ (instance : InputInstance). instance_answer frame instance (instance_variables instance earlier)) setup.instances

-- what the bus answers to a frame, after these frames
abbrev pub answer_of : Setup → List Sent → Frame → Reply
answer_of setup earlier frame = reply_of (answers setup earlier frame)

-- the variables of the gear at a short address, where there is gear
abbrev pub variables_at : Setup → List Sent → ℕ → Option GearVariables
variables_at setup earlier address =
    option_map (λ (gear : Gear). gear_variables gear earlier)
    (find (λ (gear : Gear). gear.address == address) setup.gears)

-- the variables of an instance of a control device by its short address and number, where it is declared
abbrev pub is_instance : ℕ → ℕ → InputInstance → Bool
is_instance address number instance = instance.address == address && instance.number == number

abbrev pub instance_variables_at : Setup → List Sent → ℕ → ℕ → Option InstanceVariables
instance_variables_at setup earlier address number =
    option_map (λ (instance : InputInstance). instance_variables instance earlier)
    (find (is_instance address number) setup.instances)

-- a frame as it was sent, where it reached the bus, and one that did not
abbrev pub IsReachedBy : Frame → Sent → Type 0
IsReachedBy frame s = (s.frame ≡ frame) × (is_reached s.mark ≡ true)

abbrev pub IsMissedBy : Sent → Type 0
IsMissedBy s = is_reached s.mark ≡ false
