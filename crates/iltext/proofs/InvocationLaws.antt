-- The items of what a function is called with are lawful.
use Rattle.std.proofs.Common.{◌≡◌, true, List, refl}
use Rattle.iltokens.proofs.Laws.{Lawful, Lawful-map}
use Rattle.iltokens.proofs.Firm.{Firm, Firm-map, Firm-seq, Firm-seq_open, Firm-fewer, from_opt, from_many}
use Rattle.ilsource.specs.declared.operand.Operand.{Operand}
use Rattle.ilsource.specs.declared.symbol.Symbol.{Symbol}
use Rattle.iltokens.specs.declared.lexed.Delimiter.TheVariants as delimiters
use Rattle.iltext.specs.declared.token.Token.{Token}
use Rattle.iltext.specs.Terminals.{delimiter}
use Rattle.iltext.specs.Invocations.{next_operand, more_operands, some_operands, handed}
use Rattle.iltext.proofs.Delimiters.{Firm-delimiter, apart_delimiter}
use Rattle.iltext.proofs.Ends.{NoDot, NoComma, NoOperand}
use Rattle.iltext.proofs.OperandLaws.{Firm-operand}

comma_apart : (t : Token) → (delimiter delimiters.Comma).starts t ≡ true → NoDot t
unfolding delimiter
comma_apart t e = apart_delimiter delimiters.Comma (delimiter delimiters.Dot).starts (λ f g. refl) t.kind t.from t.to e

pub Firm-next_operand : Firm Token (Operand Symbol) next_operand NoDot
unfolding next_operand
Firm-next_operand = Firm-map _ (Firm-seq (Firm-delimiter delimiters.Comma) (λ t e. tt) Firm-operand)

Lawful-more_operands : Lawful Token (List (Operand Symbol)) more_operands (λ t. NoDot t × NoComma t)
unfolding more_operands next_operand
Lawful-more_operands = from_many (λ t e. comma_apart t e) Firm-next_operand

Firm-some_operands : Firm Token (List (Operand Symbol)) some_operands (λ t. NoDot t × NoComma t)
unfolding some_operands more_operands next_operand
Firm-some_operands = Firm-fewer (λ t. NoDot t × NoComma t) (λ t e. (e.0, e))
    (Firm-map _ (Firm-seq_open Firm-operand (λ t e. comma_apart t e) Lawful-more_operands))

pub Lawful-handed : Lawful Token (List (Operand Symbol)) handed (λ t. (NoDot t × NoComma t) × NoOperand t)
unfolding handed some_operands
Lawful-handed = Lawful-map _ _ _ _ _ _ (from_opt Firm-some_operands)
