-- Which tokens stand at the beginning of worked texts.
use Rattle.std.proofs.Common.{◌≡◌, ◌≤◌, ℕ, List, length, codes, refl, sym}
use Rattle.iltokens.specs.declared.lexed.Lexed.{Lexed}
use Rattle.iltokens.specs.declared.lexed.Lexed.TheVariants.{Token, End}
use Rattle.iltokens.specs.declared.lexed.What.TheVariants.{Time}
use Rattle.iltokens.specs.AddressSteps.{kind_at, address}
use Rattle.iltokens.specs.BlankSteps.{blanks_read}
use Rattle.iltokens.specs.Digits.{is_digit}
use Rattle.iltokens.specs.DigitSteps.{add_digit, next_digit, digits_read, plain_from}
use Rattle.iltokens.specs.FrontSteps.{number_at, word_kind, word_at, address_at, delimiter_at, front_at}
use Rattle.iltokens.specs.NumberSteps.{based, unsigned, signed}
use Rattle.iltokens.specs.TimeSteps.{after_unit, part, parts_begin, with_part, parts, after_prefix, time}
use Rattle.iltokens.specs.TokenSteps.{token_at}
use Rattle.iltokens.specs.Tokens.{StandsNext}
use Rattle.iltokens.proofs.Reporting.{token_reported}

-- what stands next is what the steps of reading give
pub next_is : (bytes : List ℕ) → 0 ≤ length bytes → (given : Lexed)
    → ((other : Lexed) → StandsNext bytes 0 other → other ≡ given) → given ≡ token_at bytes 0
next_is bytes within given only = sym (only (token_at bytes 0) (token_reported bytes 0 within))

pub milliseconds : token_at (codes "T#5ms") 0 ≡ Token (Time 5) 0 5
unfolding token_at blanks_read front_at word_at word_kind number_at address_at delimiter_at after_unit part parts_begin
    with_part parts after_prefix time next_digit digits_read plain_from is_digit add_digit based unsigned signed
    kind_at address
milliseconds = refl

pub comment : token_at (codes "(*a)*)") 0 ≡ End
unfolding token_at blanks_read front_at word_at word_kind number_at address_at delimiter_at after_unit part parts_begin
    with_part parts after_prefix time next_digit digits_read plain_from is_digit add_digit based unsigned signed
    kind_at address
comment = refl
