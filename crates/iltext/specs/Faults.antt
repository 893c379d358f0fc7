-- Faults of a text: their numbers (profile), their causes and their places.
use Rattle.std.specs.Prelude.{◌≡◌, ℕ, ◌+◌, ◌-◌, nat_lt, nat_le, Bool, true, false, ◌&&◌, not, if◌then◌else◌}
use Rattle.std.specs.Prelude.{List, [], ◌∷◌, length, Option, Some}
use Rattle.limits.specs.Limits.{most_nesting}
use Rattle.iltypes.specs.Operators.{may_defer}
use Rattle.ilsource.specs.Places.{line_at, col_at}
use Rattle.iltokens.specs.declared.lexed.LexicalCause.{LexicalCause}
use Rattle.iltokens.specs.declared.lexed.LexicalCause.TheVariants as lexical
use Rattle.iltokens.specs.declared.lexed.Delimiter.TheVariants as delimiters
use Rattle.iltokens.specs.declared.lexed.What.TheVariants as whats
use Rattle.iltext.specs.declared.roles.OperatorRole.{OperatorRole}
use Rattle.iltext.specs.declared.roles.OperatorRole.TheVariants as roles
use Rattle.iltext.specs.declared.token.TokenKind.{TokenKind}
use Rattle.iltext.specs.declared.token.TokenKind.TheVariants as kinds
use Rattle.iltext.specs.declared.token.Token.{Token}
use Rattle.iltext.specs.Roles.{role_of, is_inner}
use Rattle.iltext.specs.declared.fault.TextCause.{TextCause}
use Rattle.iltext.specs.declared.fault.TextCause.TheVariants.{NotAscii, BadToken, Unexpected, BadNumber, TooDeep}
use Rattle.iltext.specs.declared.fault.TextCause.TheVariants.{NotNested, CommentOpen, TooLong}
use Rattle.iltext.specs.declared.fault.TextFault.{TextFault}
use Rattle.iltext.specs.declared.fault.TextFault.TheVariants as faults

abbrev pub number_of_cause : TextCause → ℕ
number_of_cause NotAscii = 2
number_of_cause BadToken = 3
number_of_cause Unexpected = 4
number_of_cause BadNumber = 5
number_of_cause TooDeep = 6
number_of_cause NotNested = 7
number_of_cause CommentOpen = 8
number_of_cause TooLong = 9

abbrev pub text_fault_number : TextFault → ℕ
text_fault_number faults.Memory = 1
text_fault_number (faults.At line col cause) = number_of_cause cause

-- ---- parentheses of deferred operators

abbrev pub is_deferrable : Option OperatorRole → Bool
is_deferrable (Some (roles.Apply operator)) = may_defer operator
is_deferrable _ = false

-- whether the token is an operator that may be deferred
abbrev pub defers : TokenKind → Bool
defers kind = is_deferrable (role_of kind)

-- how many are open after a token, where so many are open before it and such an operator stands just before it or not
abbrev pub open_after : Bool → ℕ → TokenKind → ℕ
open_after true count (kinds.Good (whats.Delimiter delimiters.Open)) = count + 1
open_after before count (kinds.Good (whats.Delimiter delimiters.Close)) = count - 1
open_after before count kind = count

-- how many are open after tokens: `(` right after such an operator opens one, and `)` closes one, if one is open
abbrev pub open_after_all : Bool → ℕ → List Token → ℕ
open_after_all before count [] = count
open_after_all before count (t ∷ ts) = open_after_all (defers t.kind) (open_after before count t.kind) ts

-- ---- causes and places

abbrev pub cause_of : LexicalCause → TextCause
cause_of lexical.NotAscii = NotAscii
cause_of lexical.BadToken = BadToken
cause_of lexical.BadNumber = BadNumber
cause_of lexical.CommentOpen = CommentOpen

-- the cause is what stands there, whatever was expected, where so many parentheses are open
abbrev pub cause_of_kind : ℕ → TokenKind → TextCause
cause_of_kind count (kinds.Bad cause) = cause_of cause
cause_of_kind count (kinds.Good (whats.Delimiter delimiters.Open)) =
    if nat_le most_nesting count then TooDeep else Unexpected
cause_of_kind count (kinds.Good (whats.Keyword word)) =
    if nat_lt 0 count && not (is_inner word) then NotNested else Unexpected
cause_of_kind count _ = Unexpected

-- at the first of the tokens that are left, after those before it
abbrev pub cause_at : List Token → List Token → TextCause
cause_at before [] = Unexpected
cause_at before (t ∷ ts) = cause_of_kind (open_after_all false 0 before) t.kind

-- the place of the first of the tokens; the end of a text counts as a token just past its last byte
abbrev pub place_at : List ℕ → List Token → ℕ
place_at text [] = length text
place_at text (t ∷ ts) = t.from

-- the fault is that of the first of the tokens that are left
abbrev pub Reports : List ℕ → List Token → List Token → TextFault → Type 0
Reports text before rest fault =
    let at = place_at text rest in fault ≡ faults.At (line_at text at) (col_at text at) (cause_at before rest)
