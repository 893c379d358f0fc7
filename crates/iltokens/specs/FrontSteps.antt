-- The token at the front of some bytes, where no blank stands.
use Rattle.std.specs.Prelude.{ℕ, ℤ, ◌-◌, ◌^◌, List, [], ◌∷◌, length, take, drop, Option, Some, None}
use Rattle.std.specs.Prelude.{Bool, true, false, ◌&&◌, ◌||◌, ◌==◌, nat_le, nat_lt, if◌then◌else◌}
use Rattle.iltokens.specs.declared.keyword.Keyword.{Keyword}
use Rattle.iltokens.specs.declared.lexed.Delimiter.TheVariants as delimiters
use Rattle.iltokens.specs.declared.lexed.What.{What}
use Rattle.iltokens.specs.declared.lexed.What.TheVariants as whats
use Rattle.iltokens.specs.declared.lexed.LexicalCause.{LexicalCause}
use Rattle.iltokens.specs.declared.lexed.LexicalCause.TheVariants.{NotAscii, BadToken, BadNumber}
use Rattle.iltokens.specs.Digits.{is_digit}
use Rattle.iltokens.specs.NumberSteps.{unsigned, signed}
use Rattle.iltokens.specs.TimeSteps.{time}
use Rattle.iltokens.specs.KeywordSteps.{keyword}
use Rattle.iltokens.specs.Letters.{is_letter}
use Rattle.iltokens.specs.WordSteps.{after_name}
use Rattle.iltokens.specs.AddressSteps.{AddressParts, address}

-- the end, a token and what stands after it, or a fault
pub data Front : Type 0 where
  end : Front
  taken : What → List ℕ → Front
  fault : LexicalCause → Front

abbrev pub in_limits : Option ℤ → List ℕ → Front
in_limits None rest = fault BadNumber
in_limits (Some n) rest = taken (whats.Number n) rest

abbrev pub number_front : Bool → Option (ℕ × List ℕ) → Front
number_front negative None = fault BadToken
number_front negative (Some read) = in_limits (signed negative read.0) read.1

unfoldable pub number_at : Bool → List ℕ → Front
number_at negative bs = number_front negative (unsigned bs)

abbrev pub kind_of_word : Option Keyword → What
kind_of_word None = whats.Name
kind_of_word (Some w) = whats.Keyword w

-- what a word is: reserved, or a name
unfoldable pub word_kind : List ℕ → What
word_kind u = kind_of_word (keyword u)

abbrev pub word_front : List ℕ → List ℕ → Front
word_front bs rest = taken (word_kind (take (length bs - length rest) bs)) rest

abbrev pub time_front : Option (ℕ × List ℕ) → List ℕ → Front
time_front None bs = word_front bs (after_name (drop 1 bs))
time_front (Some read) bs = if nat_le read.0 4294967295 then taken (whats.Time read.0) read.1 else fault BadNumber

-- a duration, or else a word
unfoldable pub word_at : List ℕ → Front
word_at bs = time_front (time bs) bs

abbrev pub address_front : Option AddressParts → Front
address_front None = fault BadToken
address_front (Some p) =
    if nat_lt p.bus (2 ^ 63) && nat_lt p.place (2 ^ 63)
    then taken (whats.Address p.kind p.bus p.place) p.rest
    else fault BadNumber

unfoldable pub address_at : List ℕ → Front
address_at bs = address_front (address bs)

-- after `:`
abbrev pub colon_at : List ℕ → Front
colon_at [] = taken (whats.Delimiter delimiters.Colon) []
colon_at (b ∷ bs) =
    if b == 61
    then taken (whats.Delimiter delimiters.Assign) bs
    else taken (whats.Delimiter delimiters.Colon) (b ∷ bs)

-- after `.`
abbrev pub dot_at : List ℕ → Front
dot_at [] = taken (whats.Delimiter delimiters.Dot) []
dot_at (b ∷ bs) =
    if b == 46
    then taken (whats.Delimiter delimiters.Range) bs
    else taken (whats.Delimiter delimiters.Dot) (b ∷ bs)

-- after `&`
abbrev pub ampersand_at : List ℕ → Front
ampersand_at [] = taken (whats.Delimiter delimiters.Ampersand) []
ampersand_at (b ∷ bs) =
    if (b == 78) || (b == 110)
    then taken (whats.Delimiter delimiters.AmpersandNot) bs
    else taken (whats.Delimiter delimiters.Ampersand) (b ∷ bs)

-- after a carriage return
abbrev pub return_at : List ℕ → Front
return_at [] = fault BadToken
return_at (b ∷ bs) = if b == 10 then taken (whats.Delimiter delimiters.LineEnd) bs else fault BadToken

-- a delimiter, a line end or what begins no token
unfoldable pub delimiter_at : List ℕ → Front
delimiter_at [] = end
delimiter_at (b ∷ bs) =
    if b == 44 then taken (whats.Delimiter delimiters.Comma) bs
    else (if b == 59 then taken (whats.Delimiter delimiters.Semicolon) bs
    else (if b == 40 then taken (whats.Delimiter delimiters.Open) bs
    else (if b == 41 then taken (whats.Delimiter delimiters.Close) bs
    else (if b == 58 then colon_at bs
    else (if b == 46 then dot_at bs
    else (if b == 38 then ampersand_at bs
    else (if b == 10 then taken (whats.Delimiter delimiters.LineEnd) bs
    else (if b == 13 then return_at bs
    else (if nat_le 128 b then fault NotAscii
    else fault BadToken)))))))))

unfoldable pub front_at : List ℕ → Front
front_at [] = end
front_at (b ∷ bs) =
    if b == 43 then number_at false bs
    else (if b == 45 then number_at true bs
    else (if b == 37 then address_at (b ∷ bs)
    else (if is_letter b then word_at (b ∷ bs)
    else (if is_digit 10 b then number_at false (b ∷ bs)
    else delimiter_at (b ∷ bs)))))
