-- What the bits of a forward frame say, as a function of its number (IEC 62386-102 and -103, clause 7).
use Rattle.std.specs.Prelude.{ℕ, ◌-◌, ◌/◌, ◌%◌, ◌^◌, ◌==◌, nat_lt, ◌&&◌, if◌then◌else◌}
use Rattle.daliframe.specs.declared.addressing.Address.{Address}
use Rattle.daliframe.specs.declared.addressing.Address.TheVariants.{Short, Group, Broadcast}
use Rattle.daliframe.specs.declared.forward16.Fields16.{Fields16}
use Rattle.daliframe.specs.declared.forward16.Fields16.TheVariants as gear
use Rattle.daliframe.specs.declared.forward24.Fields24.{Fields24}
use Rattle.daliframe.specs.declared.forward24.Fields24.TheVariants as device

-- a level or an opcode by the selector bit
abbrev pub selected : ℕ → Address → ℕ → Fields16
selected selector address value = if selector == 0 then gear.Level address value else gear.Command address value

-- the fields of an address byte, halved, with its selector bit, and of the byte after it
unfoldable pub addressed_at : ℕ → ℕ → ℕ → Fields16
addressed_at half selector value =
    if nat_lt half 64 then selected selector (Short half) value
    else (if nat_lt half 80 then selected selector (Group (half - 64)) value
    else (if half == 127 then selected selector Broadcast value
    else gear.Other))

-- the fields of two bytes
unfoldable pub fields_at : ℕ → ℕ → Fields16
fields_at first second =
    if first == 0xA3 then gear.Dtr0 second
    else (if first == 0xC3 then gear.Dtr1 second
    else addressed_at (first / 2) (first % 2) second)

-- the fields of a 16-bit frame
abbrev pub fields_of : ℕ → Fields16
fields_of frame = fields_at (frame / 2 ^ 8) (frame % 2 ^ 8)

-- the fields of three bytes
unfoldable pub device_fields_at : ℕ → ℕ → ℕ → Fields24
device_fields_at first second third =
    if first % 2 == 0 then device.Event
    else (if first == 0xC1 && second == 0x30 then device.Dtr0 third
    else (if nat_lt first 128 && nat_lt second 32 then device.Command (first / 2) second third
    else device.OtherCommand))

-- the fields of a 24-bit frame
abbrev pub device_fields_of : ℕ → Fields24
device_fields_of frame = device_fields_at (frame / 2 ^ 16) (frame / 2 ^ 8 % 2 ^ 8) (frame % 2 ^ 8)
