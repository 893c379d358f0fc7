-- Lines of words (profile): a line ends with LF or CR LF, and the last needs no end; between two words stands exactly
-- one space (32). Empty lines and those that begin with `#` (35) are skipped. Numbers are digits alone, and may begin
-- with 0.
use Rattle.std.specs.Prelude.{◌≡◌, ℕ, ◌==◌, nat_lt, nat_le, Bool, true, false, ◌&&◌, if◌then◌else◌, List, [], ◌∷◌}
use Rattle.std.specs.Prelude.{Option, Some, None, option_map, length, bytes_eq, ⊤}
use Rattle.std.specs.List.{slice_split}
use Rattle.std.specs.Char.{digit_value}
use Rattle.std.specs.Str.Parse.{digits_value}

-- the parts between the spaces: where two spaces meet, or one stands at an end, a part is empty, and that is no word of
-- a line
abbrev pub words : List ℕ → List (List ℕ)
words line = slice_split (λ byte. byte == 32) line

-- nothing, or a comment
abbrev pub IsSkipped : List ℕ → Type 0
IsSkipped [] = ⊤
IsSkipped (byte ∷ bytes) = byte ≡ 35

-- each byte is a digit in the radix, whose letters are of either case
abbrev pub are_digits : ℕ → List ℕ → Bool
are_digits radix [] = true
are_digits radix (byte ∷ bytes) = nat_lt (digit_value byte) radix && are_digits radix bytes

-- the number that decimal digits alone spell, one or more, where it is at most `most`
abbrev pub number_upto : ℕ → List ℕ → Option ℕ
number_upto most digits =
    if (nat_lt 0 (length digits) && are_digits 10 digits) && nat_le (digits_value 10 digits) most then Some
    (digits_value 10 digits) else None

-- the number that exactly six hexadecimal digits spell
abbrev pub hex_number : List ℕ → Option ℕ
hex_number digits = if (length digits == 6) && are_digits 16 digits then Some (digits_value 16 digits) else None

-- the number at most `most` that the first word spells, and the words after it
abbrev pub number_in : ℕ → List (List ℕ) → Option (ℕ × List (List ℕ))
number_in most [] = None
number_in most (word ∷ rest) = option_map (λ number. (number, rest)) (number_upto most word)

-- the number was taken from the words that were left, where there is one, and these are left now
abbrev pub IsTaken : ℕ → List (List ℕ) → List (List ℕ) → Option ℕ → Type 0
IsTaken most before after None = number_in most before ≡ None
IsTaken most before after (Some number) = number_in most before ≡ Some (number, after)

-- the words after this one, where it is the first
abbrev pub after_word : List ℕ → List (List ℕ) → Option (List (List ℕ))
after_word keyword [] = None
after_word keyword (word ∷ rest) = if bytes_eq word keyword then Some rest else None

-- this word was taken from those that were left, where it was the first, and these are left now; else nothing was
abbrev pub IsWordTaken : List ℕ → List (List ℕ) → List (List ℕ) → Bool → Type 0
IsWordTaken keyword before after true = after_word keyword before ≡ Some after
IsWordTaken keyword before after false = (after_word keyword before ≡ None) × (after ≡ before)

-- the parts between the marks of what stands after one
abbrev pub parts_of : ℕ → Option (List ℕ) → List (List ℕ)
parts_of mark None = []
parts_of mark (Some bytes) = slice_split (λ byte. byte == mark) bytes

-- a word of these two parts: exactly one dot (46) stands in it, between them
abbrev pub AreAroundDot : List ℕ → List ℕ → List ℕ → Type 0
AreAroundDot word front back = slice_split (λ byte. byte == 46) word ≡ front ∷ back ∷ []
