-- The lists of frames that are legal, each with the priority of its first frame.
use Rattle.std.specs.Prelude.{◌≡◌, ℕ, ◌<◌, ◌^◌, ◌⊎◌, List, [], ◌∷◌}
use Rattle.daliframe.specs.declared.forward.Frame.{Frame}
use Rattle.daliframe.specs.declared.forward.Frame.TheVariants.{Forward16, Forward24}
use Rattle.daliframe.specs.declared.addressing.Address.{Address}
use Rattle.daliframe.specs.declared.opcodes.OpcodeClass.{OpcodeClass}
use Rattle.daliframe.specs.declared.opcodes.OpcodeClass.TheVariants as gear
use Rattle.daliframe.specs.declared.opcodes.DeviceOpcodeClass.{DeviceOpcodeClass}
use Rattle.daliframe.specs.declared.opcodes.DeviceOpcodeClass.TheVariants as device
use Rattle.daliframe.specs.Addresses.{IsAddress}
use Rattle.daliframe.specs.Opcodes.{IsOfClass, IsOfDeviceClass}
use Rattle.daliframe.specs.Frames.{level_frame, command_frame, dtr0_frame, dtr1_frame, device_frame, device_dtr0_frame}

-- the frames of a transaction are three at most (profile)
abbrev pub most_frames : ℕ
most_frames = 3

-- frames in the order of sending, with the first one's priority; each later one has priority 1, the highest (IEC
-- 62386-101, clause 9; profile)
pub record FrameList : Type 0 where
  pub frames : List Frame
  pub first_priority : ℕ

-- a direct level to some address
abbrev pub IsLevel : Frame → Type 0
IsLevel frame =
    (address : Address) × (level : ℕ) × IsAddress address × (level < 2 ^ 8)
    × (frame ≡ Forward16 (level_frame address level))

-- a command of this class to some control gear
abbrev pub IsGearCommand : OpcodeClass → Frame → Type 0
IsGearCommand kind frame =
    (address : Address) × (opcode : ℕ) × IsAddress address × IsOfClass kind opcode
    × (frame ≡ Forward16 (command_frame address opcode))

-- a command of this class to an instance of some control device
abbrev pub IsDeviceCommand : DeviceOpcodeClass → Frame → Type 0
IsDeviceCommand kind frame =
    (address : ℕ) × (instance : ℕ) × (opcode : ℕ) × (address < 64) × (instance < 32) × IsOfDeviceClass kind opcode
    × (frame ≡ Forward24 (device_frame address instance opcode))

-- `A3 d`, `C3 d`, and for control devices `C1 30 d` with d an event scheme
abbrev pub IsDtr0 : Frame → Type 0
IsDtr0 frame = (value : ℕ) × (value < 2 ^ 8) × (frame ≡ Forward16 (dtr0_frame value))

abbrev pub IsDtr1 : Frame → Type 0
IsDtr1 frame = (value : ℕ) × (value < 2 ^ 8) × (frame ≡ Forward16 (dtr1_frame value))

abbrev pub IsSchemeDtr0 : Frame → Type 0
IsSchemeDtr0 frame = (scheme : ℕ) × (scheme < 5) × (frame ≡ Forward24 (device_dtr0_frame scheme))

-- One level, or one command that is sent once: class 2 or 4. One query: class 5.
-- Twice the same command that is sent twice: class 3.
-- DTR0, then twice the same command that takes it: class 3. DTR1, DTR0, then a read: class 5.
-- (IEC 62386-102, clauses 9 and 11; profile for classes and for control devices)
abbrev pub IsLegal : List Frame → ℕ → Type 0
IsLegal [] first = ⊥
IsLegal (a ∷ []) first =
    (((first ≡ 2) ⊎ (first ≡ 4)) × (IsLevel a ⊎ IsGearCommand gear.Once a))
    ⊎ ((first ≡ 5) × (IsGearCommand gear.Query a ⊎ IsDeviceCommand device.Query a))
IsLegal (a ∷ b ∷ []) first = (first ≡ 3) × (b ≡ a) × (IsGearCommand gear.Twice a ⊎ IsDeviceCommand device.Twice a)
IsLegal (a ∷ b ∷ c ∷ []) first =
    ((first ≡ 3) × (c ≡ b)
    × ((IsDtr0 a × IsGearCommand gear.TwiceAfterDtr0 b) ⊎ (IsSchemeDtr0 a × IsDeviceCommand device.TwiceAfterDtr0 b)))
    ⊎ ((first ≡ 5) × IsDtr1 a × IsDtr0 b × IsGearCommand gear.Read c)
IsLegal (a ∷ b ∷ c ∷ d ∷ more) first = ⊥
