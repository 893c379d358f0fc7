-- Direct addresses (IEC 61131-3, 2.4.1.1; which there are is this project's profile): `%QB`, `%IW` or `%IX`, then two
-- numbers of plain digits with a dot between them.
use Rattle.std.specs.Prelude.{ℕ, List, [], ◌∷◌, Option, Some, None, codes, ◌==◌, if◌then◌else◌}
use Rattle.std.specs.Option.{option_or}
use Rattle.iltokens.specs.declared.lexed.AddressKind.{AddressKind}
use Rattle.iltokens.specs.declared.lexed.AddressKind.TheVariants as kinds
use Rattle.iltokens.specs.DigitSteps.{plain}
use Rattle.iltokens.specs.WordSteps.{after_word}

abbrev pub is_kind : AddressKind → Option (List ℕ) → Option (AddressKind × List ℕ)
is_kind kind None = None
is_kind kind (Some rest) = Some (kind, rest)

unfoldable pub kind_at : List ℕ → Option (AddressKind × List ℕ)
kind_at bs =
    option_or (is_kind kinds.OutputByte (after_word (codes "%qb") bs))
    (option_or (is_kind kinds.InputWord (after_word (codes "%iw") bs))
    (is_kind kinds.InputBit (after_word (codes "%ix") bs)))

pub record AddressParts : Type 0 where
  pub kind : AddressKind
  pub bus : ℕ
  pub place : ℕ
  pub rest : List ℕ

abbrev pub with_place : AddressKind → ℕ → Option (ℕ × List ℕ) → Option AddressParts
with_place kind bus None = None
with_place kind bus (Some read) = Some (record { kind = kind; bus = bus; place = read.0; rest = read.1 })

-- a dot (46) and the place
abbrev pub after_dot : AddressKind → ℕ → List ℕ → Option AddressParts
after_dot kind bus [] = None
after_dot kind bus (b ∷ bs) = if b == 46 then with_place kind bus (plain bs) else None

abbrev pub with_bus : AddressKind → Option (ℕ × List ℕ) → Option AddressParts
with_bus kind None = None
with_bus kind (Some read) = after_dot kind read.0 read.1

abbrev pub with_kind : Option (AddressKind × List ℕ) → Option AddressParts
with_kind None = None
with_kind (Some read) = with_bus read.0 (plain read.1)

-- the address at the front, and what stands after it
unfoldable pub address : List ℕ → Option AddressParts
address bs = with_kind (kind_at bs)
