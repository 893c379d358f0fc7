-- What a simulated bus keeps of the frames that were sent on it.
use Rattle.std.specs.Prelude.{◌≡◌, ℕ, Bool, false, Option, Some, None, List, [], ◌∷◌, map}
use Rattle.daliframe.specs.declared.forward.Frame.{Frame}
use Rattle.daliframe.specs.declared.forward16.Fields16.{Fields16}
use Rattle.daliframe.specs.declared.forward24.Fields24.{Fields24}
use Rattle.buslink.specs.declared.marks.Reply.{Reply}
use Rattle.buslink.specs.declared.marks.Reply.TheVariants as reply
use Rattle.buslink.specs.declared.marks.Sent.{Sent}
use Rattle.simbus.specs.declared.gears.Gear.{Gear}
use Rattle.simbus.specs.declared.gears.MemoryByte.{MemoryByte}
use Rattle.simbus.specs.declared.instances.InputInstance.{InputInstance}
use Rattle.simbus.specs.declared.equipment.LiveGear.{LiveGear}
use Rattle.simbus.specs.declared.equipment.LiveInstance.{LiveInstance}
use Rattle.simbus.specs.declared.equipment.Equipment.{Equipment}
use Rattle.simbus.specs.Gears.{after_fields}
use Rattle.simbus.specs.Answers.{fields_answer}
use Rattle.simbus.specs.Instances.{instance_after_fields, dtr0_after_fields, instance_fields_answer}
use Rattle.simbus.specs.Histories.{Setup, same_frame, is_pair, gear_variables, device_dtr0, instance_variables}

-- gear and an instance with their variables after these frames
abbrev pub live_gear : List Sent → Gear → LiveGear
live_gear earlier gear = record { gear = gear; variables = gear_variables gear earlier }

abbrev pub live_instance : List Sent → InputInstance → LiveInstance
live_instance earlier instance = record { instance = instance; variables = instance_variables instance earlier }

-- one frame further
abbrev pub gear_after_fields : Bool → Fields16 → LiveGear → LiveGear
gear_after_fields is_pair fields live =
    record live { variables = after_fields is_pair live.gear.address fields live.variables }

abbrev pub live_instance_after_fields : Bool → ℕ → Fields24 → LiveInstance → LiveInstance
live_instance_after_fields is_pair dtr0 fields live =
    record live { variables = instance_after_fields is_pair dtr0 live.instance fields live.variables }

-- their answers
abbrev pub live_answer : List MemoryByte → Fields16 → LiveGear → Option ℕ
live_answer memory fields live = fields_answer memory live.gear fields live.variables

abbrev pub live_instance_answer : Fields24 → LiveInstance → Option ℕ
live_instance_answer fields live = instance_fields_answer live.instance fields live.variables

-- the reply with one answer more
abbrev pub joined : Reply → Option ℕ → Reply
joined reply None = reply
joined reply.Quiet (Some byte) = reply.Answer byte
joined (reply.Answer first) (Some byte) = reply.Damaged
joined reply.Damaged (Some byte) = reply.Damaged
joined reply.Lost (Some byte) = reply.Damaged

-- the reply with the answers of these
abbrev pub replies_from : {X : Type 0} → (X → Option ℕ) → Reply → List X → Reply
replies_from answer reply [] = reply
replies_from answer reply (x ∷ xs) = replies_from answer (joined reply (answer x)) xs

-- whether a pair was begun with this frame
abbrev pub is_begun : Option Frame → Frame → Bool
is_begun None frame = false
is_begun (Some first) frame = same_frame first frame

-- the equipment is that of the setup after these frames, of which the last comes first
pub record IsEquipmentOf (setup : Setup) (earlier : List Sent) (e : Equipment) : Type 0 where
  pub gears : e.gears.items ≡ map (live_gear earlier) setup.gears
  pub memory : e.memory.items ≡ setup.memory
  pub instances : e.instances.items ≡ map (live_instance earlier) setup.instances
  pub dtr0 : e.device_dtr0 ≡ device_dtr0 earlier
  pub begun : (frame : Frame) → is_begun e.begun frame ≡ is_pair frame earlier

-- the gears took what a frame says, and nothing else changed
pub record IsAfterGearFields (is_pair : Bool) (fields : Fields16) (old new : Equipment) : Type 0 where
  pub gears : new.gears.items ≡ map (gear_after_fields is_pair fields) old.gears.items
  pub memory : new.memory.items ≡ old.memory.items
  pub instances : new.instances.items ≡ old.instances.items
  pub dtr0 : new.device_dtr0 ≡ old.device_dtr0
  pub begun : new.begun ≡ old.begun

-- the instances took what a frame says, and nothing else changed
pub record IsAfterDeviceFields (is_pair : Bool) (fields : Fields24) (old new : Equipment) : Type 0 where
  pub gears : new.gears.items ≡ old.gears.items
  pub memory : new.memory.items ≡ old.memory.items
  pub instances : new.instances.items ≡ map
      (live_instance_after_fields is_pair old.device_dtr0 fields) old.instances.items
  pub dtr0 : new.device_dtr0 ≡ dtr0_after_fields fields old.device_dtr0
  pub begun : new.begun ≡ old.begun

-- what was declared of the equipment
abbrev pub setup_of : Equipment → Setup
setup_of e = record {
  gears = map (λ (live : LiveGear). live.gear) e.gears.items;
  memory = e.memory.items;
  instances = map (λ (live : LiveInstance). live.instance) e.instances.items;
}
