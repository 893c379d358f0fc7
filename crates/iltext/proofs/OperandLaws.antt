-- The items of what instructions name are lawful, and none begins with a line end.
use Rattle.std.proofs.Common.{◌≡◌, ℕ, true, false, refl}
use Rattle.iltokens.proofs.Firm.{Firm, Firm-one, Firm-map, Firm-seq, Firm-seq_open, Firm-alt, Firm-fewer, from_opt}
use Rattle.ilsource.specs.declared.name.Name.{Name}
use Rattle.ilsource.specs.declared.symbol.Symbol.{Symbol}
use Rattle.iltokens.specs.declared.keyword.Keyword.TheVariants as words
use Rattle.iltokens.specs.declared.lexed.Delimiter.TheVariants as delimiters
use Rattle.iltokens.specs.declared.lexed.What.TheVariants as whats
use Rattle.ilsource.specs.declared.operand.Operand.{Operand}
use Rattle.iltypes.specs.declared.value.Value.{Value}
use Rattle.iltypes.specs.declared.value.Value.TheVariants as values
use Rattle.iltext.specs.declared.token.TokenKind.{TokenKind}
use Rattle.iltext.specs.declared.token.TokenKind.TheVariants as kinds
use Rattle.iltext.specs.declared.token.Token.{Token}
use Rattle.iltext.specs.Terminals.{delimiter, name}
use Rattle.iltext.specs.Operands.{port, dot_port, symbol, literal, operand}
use Rattle.iltext.specs.Operands.{spaced_dot_port, spaced_symbol, spaced_operand}
use Rattle.iltext.proofs.Delimiters.{Anything, token_of, Firm-delimiter}
use Rattle.iltext.proofs.Ends.{NoEnd, NoDot, Firm-name, Firm-spaced, delimiter_no_end}

-- ---- variables and ports

pub Firm-port : Firm Token Name port Anything
unfolding port
Firm-port = Firm-one _ (token_of (kinds.Good whats.Name) 0 0) (record { from = 0; to = 0 }) refl

pub port_no_end : (k : TokenKind) (f g : ℕ) → port.starts (token_of k f g) ≡ true → NoEnd (token_of k f g)
unfolding port delimiter
port_no_end (kinds.Good (whats.Delimiter m)) f g e = absurd cc
port_no_end _ f g e = refl

Firm-dot_port : Firm Token Name dot_port Anything
unfolding dot_port
Firm-dot_port = Firm-map _ (Firm-seq (Firm-delimiter delimiters.Dot) (λ t e. tt) Firm-port)

pub Firm-symbol : Firm Token Symbol symbol NoDot
unfolding symbol dot_port
Firm-symbol = Firm-map _ (Firm-fewer NoDot (λ t e. (tt, (tt, e)))
    (Firm-seq_open Firm-name (λ t e. tt) (from_opt Firm-dot_port)))

-- ---- operands

Firm-literal : Firm Token Value literal Anything
unfolding literal
Firm-literal = Firm-one _ (token_of (kinds.Good (whats.Keyword words.True)) 0 0) (values.Bool true) refl

literal_apart : (k : TokenKind) (f g : ℕ) → literal.starts (token_of k f g) ≡ true
    → name.starts (token_of k f g) ≡ false
unfolding literal name
literal_apart (kinds.Good whats.Name) f g e = absurd cc
literal_apart _ f g e = refl

pub Firm-operand : Firm Token (Operand Symbol) operand NoDot
unfolding operand symbol
Firm-operand = Firm-fewer NoDot (λ t e. (e, tt))
    (Firm-alt (Firm-map _ Firm-symbol) (λ t e. literal_apart t.kind t.from t.to e) (Firm-map _ Firm-literal))

pub operand_no_end : (k : TokenKind) (f g : ℕ) → operand.starts (token_of k f g) ≡ true → NoEnd (token_of k f g)
unfolding operand symbol literal name delimiter
operand_no_end (kinds.Good (whats.Delimiter m)) f g e = absurd cc
operand_no_end _ f g e = refl

-- ---- in the parentheses of a call

Firm-spaced_dot_port : Firm Token Name spaced_dot_port NoEnd
unfolding spaced_dot_port
Firm-spaced_dot_port = Firm-map _ (Firm-seq (Firm-spaced (Firm-delimiter delimiters.Dot))
    (λ t e. port_no_end t.kind t.from t.to e) (Firm-spaced Firm-port))

-- what may not follow an operand there
abbrev pub Apart : Token → Type 0
Apart t = NoEnd t × NoDot t

Firm-spaced_symbol : Firm Token Symbol spaced_symbol Apart
unfolding spaced_symbol spaced_dot_port
Firm-spaced_symbol = Firm-map _ (Firm-fewer Apart (λ t e. (e.0, (e.0, e.1)))
    (Firm-seq_open (Firm-spaced Firm-name) (λ t e. delimiter_no_end delimiters.Dot refl t e)
    (from_opt Firm-spaced_dot_port)))

pub Firm-spaced_operand : Firm Token (Operand Symbol) spaced_operand Apart
unfolding spaced_operand spaced_symbol
Firm-spaced_operand = Firm-fewer Apart (λ t e. (e, e.0))
    (Firm-alt (Firm-map _ Firm-spaced_symbol) (λ t e. literal_apart t.kind t.from t.to e)
    (Firm-map _ (Firm-spaced Firm-literal)))

pub spaced_operand_no_end : (k : TokenKind) (f g : ℕ) → spaced_operand.starts (token_of k f g) ≡ true
    → NoEnd (token_of k f g)
unfolding spaced_operand spaced_symbol literal name delimiter
spaced_operand_no_end (kinds.Good (whats.Delimiter m)) f g e = absurd cc
spaced_operand_no_end _ f g e = refl
