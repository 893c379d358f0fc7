-- The selector bit of an address byte.
use Rattle.std.proofs.Common.{◌≡◌, ℕ, ◌+◌, ◌*◌, ◌^◌, bit_or, arith}
use Rattle.std.proofs.lemmas.Nat.{or_shifted}
use Rattle.daliframe.specs.declared.addressing.Address.{Address}
use Rattle.daliframe.specs.declared.addressing.Address.TheVariants.{Short, Group, Broadcast}
use Rattle.daliframe.specs.Addresses.{address_byte}

-- an even number with its lowest bit set
even_or_one : (n half : ℕ) → n ≡ half * 2 ^ 1 → bit_or n 1 ≡ n + 1
even_or_one n half e = rw e (or_shifted half 1 1 (omega arith))

-- to set the lowest bit of a level's address byte gives that of a command
pub address_byte-selected : (address : Address) → bit_or (address_byte address 0) 1 ≡ address_byte address 1
address_byte-selected (Short address) = omega (arith, even_or_one (2 * address + 0) address (omega arith))
address_byte-selected (Group group) = omega (arith, even_or_one (128 + 2 * group + 0) (64 + group) (omega arith))
address_byte-selected Broadcast = omega (arith, even_or_one 254 127 (omega arith))
