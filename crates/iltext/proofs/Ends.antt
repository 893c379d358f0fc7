-- Single tokens and the line ends after them: each is lawful, and none but a line end begins as one.
use Rattle.std.proofs.Common.{◌≡◌, ℕ, ℤ, pos, true, false, refl}
use Rattle.iltokens.specs.Items.{Item}
use Rattle.iltokens.proofs.Laws.{Lawful, Lawful-fewer, Lawful-map}
use Rattle.iltokens.proofs.Firm.{Firm, Firm-one, Firm-map, Firm-seq, Firm-seq_open, Firm-fewer, from_many}
use Rattle.ilsource.specs.declared.name.Name.{Name}
use Rattle.ilsource.specs.declared.declaration.Constant.{Constant}
use Rattle.ilsource.specs.declared.declaration.Constant.TheVariants as constants
use Rattle.iltokens.specs.declared.keyword.Keyword.{Keyword}
use Rattle.iltokens.specs.declared.keyword.Keyword.TheVariants as words
use Rattle.iltokens.specs.declared.lexed.Delimiter.{Delimiter}
use Rattle.iltokens.specs.declared.lexed.Delimiter.TheVariants as delimiters
use Rattle.iltokens.specs.declared.lexed.What.TheVariants as whats
use Rattle.iltext.specs.declared.token.TokenKind.{TokenKind}
use Rattle.iltext.specs.declared.token.TokenKind.TheVariants as kinds
use Rattle.iltext.specs.declared.token.Token.{Token}
use Rattle.iltext.specs.Terminals.{Seen, word, same_delimiter, delimiter, name, number, constant, closing}
use Rattle.iltext.specs.Terminals.{line_ends, spaced, line_break, ended}
use Rattle.iltext.specs.Operands.{symbol, literal, operand}
use Rattle.iltext.proofs.Delimiters.{Anything, token_of, Firm-delimiter, apart_word, apart_delimiter}

-- ---- single tokens

pub Firm-name : Firm Token Name name Anything
unfolding name
Firm-name = Firm-one _ (token_of (kinds.Good whats.Name) 0 0) (record { from = 0; to = 0 }) refl

pub Firm-number : Firm Token ℤ number Anything
unfolding number
Firm-number = Firm-one _ (token_of (kinds.Good (whats.Number (pos 0))) 0 0) (pos 0) refl

pub Firm-constant : Firm Token Constant constant Anything
unfolding constant
Firm-constant = Firm-one _ (token_of (kinds.Good (whats.Keyword words.True)) 0 0) (constants.Bool true) refl

pub Firm-closing : Firm Token ℕ closing Anything
unfolding closing
Firm-closing = Firm-one _ (token_of (kinds.Good (whats.Delimiter delimiters.Close)) 0 0) 0 refl

-- ---- line ends

abbrev pub NoEnd : Token → Type 0
NoEnd t = (delimiter delimiters.LineEnd).starts t ≡ false

pub Firm-line_end : Firm Token Seen (delimiter delimiters.LineEnd) Anything
Firm-line_end = Firm-delimiter delimiters.LineEnd

pub Lawful-line_ends : Lawful Token Seen line_ends NoEnd
unfolding line_ends
Lawful-line_ends =
    Lawful-fewer _ _ _ _ NoEnd (λ t e. (tt, e)) (Lawful-map _ _ _ _ _ _ (from_many (λ t e. tt) Firm-line_end))

pub Firm-spaced : {A : Type 0} {a : Item Token A} → Firm Token A a Anything → Firm Token A (spaced a) NoEnd
Firm-spaced x = Firm-map _ (Firm-fewer NoEnd (λ t e. (tt, e)) (Firm-seq_open x (λ t e. tt) Lawful-line_ends))

pub Firm-line_break : Firm Token Seen line_break NoEnd
unfolding line_break
Firm-line_break = Firm-spaced Firm-line_end

-- none of these delimiters
abbrev pub NoDot : Token → Type 0
NoDot t = (delimiter delimiters.Dot).starts t ≡ false

abbrev pub NoComma : Token → Type 0
NoComma t = (delimiter delimiters.Comma).starts t ≡ false

abbrev pub NoOpen : Token → Type 0
NoOpen t = (delimiter delimiters.Open).starts t ≡ false

-- no operand begins here
abbrev pub NoOperand : Token → Type 0
NoOperand t = operand.starts t ≡ false

-- what may not follow an instruction
abbrev pub NoMore : Token → Type 0
NoMore t = (NoDot t × NoOpen t) × (NoComma t × NoOperand t)

pub end_apart : (t : Token) → (delimiter delimiters.LineEnd).starts t ≡ true → NoMore t
unfolding delimiter operand symbol literal name
end_apart t e = (
  (
    apart_delimiter delimiters.LineEnd (delimiter delimiters.Dot).starts (λ f g. refl) t.kind t.from t.to e,
    apart_delimiter delimiters.LineEnd (delimiter delimiters.Open).starts (λ f g. refl) t.kind t.from t.to e,
  ),
  (
    apart_delimiter delimiters.LineEnd (delimiter delimiters.Comma).starts (λ f g. refl) t.kind t.from t.to e,
    apart_delimiter delimiters.LineEnd operand.starts (λ f g. refl) t.kind t.from t.to e,
  ),
)

pub Firm-ended : {A : Type 0} {a : Item Token A} → Firm Token A a NoMore → Firm Token A (ended a) NoEnd
unfolding line_break
Firm-ended x = Firm-map _ (Firm-seq x (λ t e. end_apart t e) Firm-line_break)

-- ---- no line end begins them

pub word_no_end : (w : Keyword) (t : Token) → (word w).starts t ≡ true → NoEnd t
unfolding delimiter
word_no_end w t e = apart_word w (delimiter delimiters.LineEnd).starts (λ f g. refl) t.kind t.from t.to e

pub delimiter_no_end : (m : Delimiter) → same_delimiter m delimiters.LineEnd ≡ false → (t : Token)
    → (delimiter m).starts t ≡ true → NoEnd t
unfolding delimiter
delimiter_no_end m other t e = apart_delimiter m (delimiter delimiters.LineEnd).starts
    (λ f g. rw other refl) t.kind t.from t.to e

pub name_no_end : (k : TokenKind) (f g : ℕ) → name.starts (token_of k f g) ≡ true → NoEnd (token_of k f g)
unfolding name delimiter
name_no_end (kinds.Good whats.Name) f g e = refl
name_no_end _ f g e = absurd cc

pub number_no_end : (k : TokenKind) (f g : ℕ) → number.starts (token_of k f g) ≡ true → NoEnd (token_of k f g)
unfolding number delimiter
number_no_end (kinds.Good (whats.Number n)) f g e = refl
number_no_end _ f g e = absurd cc

pub constant_no_end : (k : TokenKind) (f g : ℕ) → constant.starts (token_of k f g) ≡ true → NoEnd (token_of k f g)
unfolding constant delimiter
constant_no_end (kinds.Good (whats.Delimiter m)) f g e = absurd cc
constant_no_end _ f g e = refl
