-- What equal addresses have alike.
use Rattle.std.specs.Prelude.{ℕ, ◌==◌, ◌&&◌, Bool}
use Rattle.iltokens.specs.declared.lexed.AddressKind.{AddressKind}
use Rattle.iltokens.specs.declared.lexed.AddressKind.TheVariants.{OutputByte, InputWord, InputBit}
use Rattle.ilsource.specs.declared.address.DirectAddress.{DirectAddress}

-- the letter that tells the kind: Q, W or X
abbrev pub letter_of : AddressKind → ℕ
letter_of OutputByte = 81
letter_of InputWord = 87
letter_of InputBit = 88

abbrev pub key_of : DirectAddress → ℕ × ℕ × ℕ
key_of a = (letter_of a.kind, a.bus, a.place)

abbrev pub same_key : ℕ × ℕ × ℕ → ℕ × ℕ × ℕ → Bool
same_key one other = (one.0 == other.0 && one.1 == other.1) && one.2 == other.2
