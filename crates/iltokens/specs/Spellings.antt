-- What each kind of token spells, by itself (IEC 61131-3, 2.1.2, 2.2.1, 2.2.3.1 and 2.4.1.1, with this project's
-- profile). Values are whole numbers without limit.
use Rattle.std.specs.Prelude.{◌≡◌, ◌⊎◌, ℕ, ◌+◌, ◌*◌, ◌<◌, ℤ, pos, neg_ℤ, List, [], ◌∷◌, ◌++◌, true, map, codes}
use Rattle.std.specs.Char.{to_ascii_lowercase}
use Rattle.iltokens.specs.declared.lexed.AddressKind.{AddressKind}
use Rattle.iltokens.specs.declared.lexed.AddressKind.TheVariants as kinds
use Rattle.iltokens.specs.declared.keyword.Keyword.{Keyword}
use Rattle.iltokens.specs.declared.lexed.Delimiter.{Delimiter}
use Rattle.iltokens.specs.declared.lexed.Delimiter.TheVariants as delimiters
use Rattle.iltokens.specs.declared.lexed.What.{What}
use Rattle.iltokens.specs.declared.lexed.What.TheVariants as whats
use Rattle.iltokens.specs.declared.time.Unit.{Unit}
use Rattle.iltokens.specs.declared.time.Unit.TheVariants as units
use Rattle.iltokens.specs.Digits.{digit_of, is_digit}
use Rattle.iltokens.specs.Keywords.{IsSpelled}
use Rattle.iltokens.specs.Letters.{is_letter, is_name_byte}
use Rattle.iltokens.specs.Times.{milliseconds}

-- the bytes are the word, in any letter case
abbrev pub Reads : List ℕ → List ℕ → Type 0
Reads word u = map to_ascii_lowercase u ≡ word

-- ---- words

abbrev pub AreNameBytes : List ℕ → Type 0
AreNameBytes [] = Prim.Unit {0}
AreNameBytes (b ∷ bs) = (is_name_byte b ≡ true) × AreNameBytes bs

-- a letter or underscore, then letters, digits and underscores (profile: also several underscores together)
abbrev pub IsName : List ℕ → Type 0
IsName [] = ⊥
IsName (b ∷ bs) = (is_letter b ≡ true) × AreNameBytes bs

-- ---- numbers

-- digits of a base, each but the first with one underscore (95) before it or none, and their value
pub data Digits (base : ℕ) : List ℕ → ℕ → Type 0 where
  one : (d : ℕ) → is_digit base d ≡ true → Digits base (d ∷ []) (digit_of d)
  next : (u : List ℕ) (n d : ℕ)
      → Digits base u n → is_digit base d ≡ true → Digits base (u ++ d ∷ []) (n * base + digit_of d)
  marked : (u : List ℕ) (n d : ℕ)
      → Digits base u n → is_digit base d ≡ true → Digits base (u ++ 95 ∷ d ∷ []) (n * base + digit_of d)

-- decimal, or `2#`, `8#`, `16#` and digits of that base
pub data IsUnsigned : List ℕ → ℕ → Type 0 where
  decimal : (u : List ℕ) (n : ℕ) → Digits 10 u n → IsUnsigned u n
  binary : (u : List ℕ) (n : ℕ) → Digits 2 u n → IsUnsigned (codes "2#" ++ u) n
  octal : (u : List ℕ) (n : ℕ) → Digits 8 u n → IsUnsigned (codes "8#" ++ u) n
  hexadecimal : (u : List ℕ) (n : ℕ) → Digits 16 u n → IsUnsigned (codes "16#" ++ u) n

-- with a sign or none (profile: one may stand before a base)
pub data IsNumber : List ℕ → ℤ → Type 0 where
  plain : (u : List ℕ) (n : ℕ) → IsUnsigned u n → IsNumber u (pos n)
  positive : (u : List ℕ) (n : ℕ) → IsUnsigned u n → IsNumber (codes "+" ++ u) (pos n)
  negative : (u : List ℕ) (n : ℕ) → IsUnsigned u n → IsNumber (codes "-" ++ u) (neg_ℤ (pos n))

-- ---- durations

abbrev pub letters : Unit → List ℕ
letters units.Day = codes "d"
letters units.Hour = codes "h"
letters units.Minute = codes "m"
letters units.Second = codes "s"
letters units.Millisecond = codes "ms"

-- a number with a unit, in milliseconds
pub record IsPart (unit : Unit) (u : List ℕ) (n : ℕ) : Type 0 where
  pub number : List ℕ
  pub count : ℕ
  pub word : List ℕ
  pub parts : u ≡ number ++ word
  pub digits : Digits 10 number count
  pub reads : Reads (letters unit) word
  pub scaled : n ≡ count * milliseconds unit

-- parts in falling order of their units, the last of which is worth `least` milliseconds; an underscore may stand
-- between two
pub data AreParts : ℕ → List ℕ → ℕ → Type 0 where
  first : (unit : Unit) (u : List ℕ) (n : ℕ) → IsPart unit u n → AreParts (milliseconds unit) u n
  then : (least : ℕ) (v : List ℕ) (m : ℕ) (unit : Unit) (u : List ℕ) (n : ℕ)
      → AreParts least v m → milliseconds unit < least → IsPart unit u n → AreParts (milliseconds unit) (v ++ u) (m + n)
  apart : (least : ℕ) (v : List ℕ) (m : ℕ) (unit : Unit) (u : List ℕ) (n : ℕ)
      → AreParts least v m → milliseconds unit < least → IsPart unit u n
      → AreParts (milliseconds unit) (v ++ 95 ∷ u) (m + n)

-- `T#` or `TIME#` and parts (profile: neither a sign nor a fraction)
pub record IsTime (u : List ℕ) (n : ℕ) : Type 0 where
  pub prefix : List ℕ
  pub least : ℕ
  pub others : List ℕ
  pub parts : u ≡ prefix ++ others
  pub reads : Reads (codes "t#") prefix ⊎ Reads (codes "time#") prefix
  pub are : AreParts least others n

-- ---- addresses

-- decimal digits without underscores
pub data PlainDigits : List ℕ → ℕ → Type 0 where
  one : (d : ℕ) → is_digit 10 d ≡ true → PlainDigits (d ∷ []) (digit_of d)
  next : (u : List ℕ) (n d : ℕ)
      → PlainDigits u n → is_digit 10 d ≡ true → PlainDigits (u ++ d ∷ []) (n * 10 + digit_of d)

abbrev pub prefix_of : AddressKind → List ℕ
prefix_of kinds.OutputByte = codes "%qb"
prefix_of kinds.InputWord = codes "%iw"
prefix_of kinds.InputBit = codes "%ix"

-- `%QB`, `%IW` or `%IX`, a bus, a dot and a place
pub record IsAddress (u : List ℕ) (kind : AddressKind) (bus place : ℕ) : Type 0 where
  pub prefix : List ℕ
  pub first : List ℕ
  pub second : List ℕ
  pub parts : u ≡ prefix ++ first ++ codes "." ++ second
  pub reads : Reads (prefix_of kind) prefix
  pub on_bus : PlainDigits first bus
  pub at_place : PlainDigits second place

-- ---- delimiters

abbrev pub IsDelimiter : Delimiter → List ℕ → Type 0
IsDelimiter delimiters.Comma u = u ≡ codes ","
IsDelimiter delimiters.Colon u = u ≡ codes ":"
IsDelimiter delimiters.Semicolon u = u ≡ codes ";"
IsDelimiter delimiters.Assign u = u ≡ codes ":="
IsDelimiter delimiters.Dot u = u ≡ codes "."
IsDelimiter delimiters.Range u = u ≡ codes ".."
IsDelimiter delimiters.Open u = u ≡ codes "("
IsDelimiter delimiters.Close u = u ≡ codes ")"
IsDelimiter delimiters.Ampersand u = u ≡ codes "&"
IsDelimiter delimiters.AmpersandNot u = Reads (codes "&n") u
-- LF, or CR and LF
IsDelimiter delimiters.LineEnd u = (u ≡ 10 ∷ []) ⊎ (u ≡ 13 ∷ 10 ∷ [])

-- ---- all kinds

abbrev pub Spells : What → List ℕ → Type 0
Spells (whats.Keyword w) u = IsName u × IsSpelled u w
Spells whats.Name u = IsName u × ((w : Keyword) → ¬ IsSpelled u w)
Spells (whats.Number n) u = IsNumber u n
Spells (whats.Time n) u = IsTime u n
Spells (whats.Address kind bus place) u = IsAddress u kind bus place
Spells (whats.Delimiter m) u = IsDelimiter m u
