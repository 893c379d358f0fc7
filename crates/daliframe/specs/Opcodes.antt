-- The classes of opcodes, each the set of its opcodes.
use Rattle.std.specs.Prelude.{◌≡◌, ℕ, ◌≤◌, ◌⊎◌}
use Rattle.daliframe.specs.declared.opcodes.OpcodeClass.{OpcodeClass}
use Rattle.daliframe.specs.declared.opcodes.OpcodeClass.TheVariants as gear
use Rattle.daliframe.specs.declared.opcodes.DeviceOpcodeClass.{DeviceOpcodeClass}
use Rattle.daliframe.specs.declared.opcodes.DeviceOpcodeClass.TheVariants as device

-- from first to last, both included
abbrev pub Within : ℕ → ℕ → ℕ → Type 0
Within first last opcode = (first ≤ opcode) × (opcode ≤ last)

-- the opcodes of control gear (IEC 62386-102, clause 11), those that this profile leaves out aside
abbrev pub IsOfClass : OpcodeClass → ℕ → Type 0
IsOfClass gear.Once o = Within 0x00 0x08 o ⊎ (o ≡ 0x0A) ⊎ Within 0x10 0x1F o
IsOfClass gear.Twice o = Within 0x20 0x21 o ⊎ Within 0x50 0x7F o
IsOfClass gear.TwiceAfterDtr0 o = Within 0x2A 0x30 o ⊎ Within 0x40 0x4F o
IsOfClass gear.Query o = Within 0x90 0xA6 o ⊎ (o ≡ 0xA8) ⊎ (o ≡ 0xAA) ⊎ Within 0xB0 0xC1 o
IsOfClass gear.Read o = o ≡ 0xC5

-- the opcodes of control devices for one instance (profile)
abbrev pub IsOfDeviceClass : DeviceOpcodeClass → ℕ → Type 0
IsOfDeviceClass device.Twice o = Within 0x62 0x63 o
IsOfDeviceClass device.TwiceAfterDtr0 o = o ≡ 0x67
IsOfDeviceClass device.Query o = (o ≡ 0x80) ⊎ Within 0x8B 0x8C o
