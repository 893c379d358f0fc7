-- Addresses of control gear, their numbers in a program, and the address byte of a 16-bit forward frame.
use Rattle.std.specs.Prelude.{⊤, ◌≡◌, ℕ, ◌+◌, ◌*◌, ◌<◌}
use Rattle.daliframe.specs.declared.addressing.Address.{Address}
use Rattle.daliframe.specs.declared.addressing.Address.TheVariants.{Short, Group, Broadcast}
use Rattle.daliframe.specs.declared.addressing.AddressClass.{AddressClass}
use Rattle.daliframe.specs.declared.addressing.AddressClass.TheVariants.{Level, Command, Special}

-- short addresses are 0 to 63 and groups 0 to 15 (IEC 62386-102, clause 7)
abbrev pub IsAddress : Address → Type 0
IsAddress (Short address) = address < 64
IsAddress (Group group) = group < 16
IsAddress Broadcast = ⊤

-- the address byte with selector bit s: `0AAAAAAS`, `100AAAAS` or `1111111S` (IEC 62386-102, clause 7)
abbrev pub address_byte : Address → ℕ → ℕ
address_byte (Short address) s = 2 * address + s
address_byte (Group group) s = 128 + 2 * group + s
address_byte Broadcast s = 254 + s

-- the number of an address in a program: short addresses, then groups, then broadcast (profile)
abbrev pub address_number : Address → ℕ
address_number (Short address) = address
address_number (Group group) = 64 + group
address_number Broadcast = 80

-- a selector bit of 0 says that a level follows, of 1 that an opcode does; a special byte is that of no address
abbrev pub IsAddressClass : AddressClass → ℕ → Type 0
IsAddressClass (Level address) byte = IsAddress address × (byte ≡ address_byte address 0)
IsAddressClass (Command address) byte = IsAddress address × (byte ≡ address_byte address 1)
IsAddressClass Special byte =
    (address : Address) (s : ℕ) → IsAddress address → s < 2 → byte ≡ address_byte address s → ⊥
