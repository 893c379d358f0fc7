-- The bits of forward frames, as equations on the frame's number.
use Rattle.std.specs.Prelude.{◌≡◌, ℕ, ◌+◌, ◌*◌, ◌/◌, ◌%◌, ◌^◌, ◌<◌}
use Rattle.daliframe.specs.declared.addressing.Address.{Address}
use Rattle.daliframe.specs.declared.forward16.Fields16.{Fields16}
use Rattle.daliframe.specs.declared.forward16.Fields16.TheVariants as gear
use Rattle.daliframe.specs.declared.forward24.Fields24.{Fields24}
use Rattle.daliframe.specs.declared.forward24.Fields24.TheVariants as device
use Rattle.daliframe.specs.Addresses.{IsAddress, address_byte}

-- 16 bits: the address byte, then the level or opcode (IEC 62386-102, clause 7)
abbrev pub frame16 : ℕ → ℕ → ℕ
frame16 address_part opcode_part = 2 ^ 8 * address_part + opcode_part

-- a direct level: selector bit 0, then the level
abbrev pub level_frame : Address → ℕ → ℕ
level_frame address level = frame16 (address_byte address 0) level

-- a command: selector bit 1, then the opcode
abbrev pub command_frame : Address → ℕ → ℕ
command_frame address opcode = frame16 (address_byte address 1) opcode

-- the special commands DTR0 and DTR1, `A3 d` and `C3 d` (IEC 62386-102, clause 11)
abbrev pub dtr0_frame : ℕ → ℕ
dtr0_frame value = frame16 0xA3 value

abbrev pub dtr1_frame : ℕ → ℕ
dtr1_frame value = frame16 0xC3 value

-- 24 bits: the address byte, the instance byte, the opcode (IEC 62386-103, clause 7)
abbrev pub frame24 : ℕ → ℕ → ℕ → ℕ
frame24 address_part instance_part opcode_part = 2 ^ 16 * address_part + 2 ^ 8 * instance_part + opcode_part

-- a command to an instance of a control device: `0AAAAAA1`, `000IIIII`, the opcode
abbrev pub device_frame : ℕ → ℕ → ℕ → ℕ
device_frame address instance opcode = frame24 (2 * address + 1) instance opcode

-- the special command DTR0 of control devices, `C1 30 d`
abbrev pub device_dtr0_frame : ℕ → ℕ
device_dtr0_frame value = frame24 0xC1 0x30 value

-- bit 16 of a 24-bit forward frame is 1 for a command and 0 for an event
abbrev pub IsCommand24 : ℕ → Type 0
IsCommand24 frame = frame / 2 ^ 16 % 2 ≡ 1

-- what a 16-bit forward frame says; `Other` says none of the other four
abbrev pub HasFields16 : Fields16 → ℕ → Type 0
HasFields16 (gear.Level address level) frame =
    IsAddress address × (level < 2 ^ 8) × (frame ≡ level_frame address level)
HasFields16 (gear.Command address opcode) frame =
    IsAddress address × (opcode < 2 ^ 8) × (frame ≡ command_frame address opcode)
HasFields16 (gear.Dtr0 value) frame = (value < 2 ^ 8) × (frame ≡ dtr0_frame value)
HasFields16 (gear.Dtr1 value) frame = (value < 2 ^ 8) × (frame ≡ dtr1_frame value)
HasFields16 gear.Other frame =
    ((address : Address) (s value : ℕ) → IsAddress address → s < 2 → value < 2 ^ 8
    → frame ≡ frame16 (address_byte address s) value → ⊥)
    × ((value : ℕ) → value < 2 ^ 8 → frame ≡ dtr0_frame value → ⊥)
    × ((value : ℕ) → value < 2 ^ 8 → frame ≡ dtr1_frame value → ⊥)

-- what a 24-bit forward frame says; `OtherCommand` is a command that says none of the other two
abbrev pub HasFields24 : Fields24 → ℕ → Type 0
HasFields24 device.Event frame = frame / 2 ^ 16 % 2 ≡ 0
HasFields24 (device.Command address instance opcode) frame =
    (address < 64) × (instance < 32) × (opcode < 2 ^ 8) × (frame ≡ device_frame address instance opcode)
HasFields24 (device.Dtr0 value) frame = (value < 2 ^ 8) × (frame ≡ device_dtr0_frame value)
HasFields24 device.OtherCommand frame =
    IsCommand24 frame
    × ((address instance opcode : ℕ) → address < 64 → instance < 32 → opcode < 2 ^ 8
    → frame ≡ device_frame address instance opcode → ⊥)
    × ((value : ℕ) → value < 2 ^ 8 → frame ≡ device_dtr0_frame value → ⊥)
