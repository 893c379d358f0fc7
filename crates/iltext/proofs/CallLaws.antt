-- The items of calls are lawful.
use Rattle.std.proofs.Common.{◌≡◌, true, List, refl}
use Rattle.iltokens.proofs.Laws.{Lawful, Lawful-map}
use Rattle.iltokens.proofs.Firm.{Firm, Firm-map, Firm-seq, Firm-seq_open, Firm-fewer, Firm-select, from_opt, from_many}
use Rattle.ilsource.specs.declared.name.Name.{Name}
use Rattle.ilsource.specs.declared.symbol.Symbol.{Symbol}
use Rattle.iltokens.specs.declared.lexed.Delimiter.TheVariants as delimiters
use Rattle.ilsource.specs.declared.arguments.Argument.{Argument}
use Rattle.iltext.specs.declared.token.Token.{Token}
use Rattle.iltext.specs.Terminals.{delimiter}
use Rattle.iltext.specs.Calls.{argument, next_argument, more_arguments, arguments, passed, call}
use Rattle.iltext.proofs.Delimiters.{Anything, Firm-delimiter, apart_delimiter}
use Rattle.iltext.proofs.Ends.{NoComma, NoOpen, Firm-name, Firm-spaced, delimiter_no_end}
use Rattle.iltext.proofs.OperandLaws.{Apart, Firm-port, port_no_end, Firm-spaced_operand, spaced_operand_no_end}

-- what may not follow arguments
abbrev NoArgument : Token → Type 0
NoArgument t = Apart t × NoComma t

comma_apart : (t : Token) → (delimiter delimiters.Comma).starts t ≡ true → Apart t
unfolding delimiter
comma_apart t e = (
  delimiter_no_end delimiters.Comma refl t e,
  apart_delimiter delimiters.Comma (delimiter delimiters.Dot).starts (λ f g. refl) t.kind t.from t.to e,
)

close_apart : (t : Token) → (delimiter delimiters.Close).starts t ≡ true → NoArgument t
unfolding delimiter
close_apart t e = (
  (
    delimiter_no_end delimiters.Close refl t e,
    apart_delimiter delimiters.Close (delimiter delimiters.Dot).starts (λ f g. refl) t.kind t.from t.to e,
  ),
  apart_delimiter delimiters.Close (delimiter delimiters.Comma).starts (λ f g. refl) t.kind t.from t.to e,
)

module _ (block : Name) where
  Firm-argument : Firm Token (Argument Symbol) (argument block) Apart
  unfolding argument
  Firm-argument = Firm-map _ (Firm-seq (Firm-spaced Firm-port) (λ t e. delimiter_no_end delimiters.Assign refl t e)
      (Firm-seq (Firm-spaced (Firm-delimiter delimiters.Assign)) (λ t e. spaced_operand_no_end t.kind t.from t.to e)
      Firm-spaced_operand))

  pub Firm-next_argument : Firm Token (Argument Symbol) (next_argument block) Apart
  unfolding next_argument argument
  Firm-next_argument = Firm-map _
      (Firm-seq (Firm-spaced (Firm-delimiter delimiters.Comma)) (λ t e. port_no_end t.kind t.from t.to e) Firm-argument)

  Lawful-more_arguments : Lawful Token (List (Argument Symbol)) (more_arguments block) NoArgument
  unfolding more_arguments next_argument
  Lawful-more_arguments = from_many (λ t e. comma_apart t e) Firm-next_argument

  Firm-arguments : Firm Token (List (Argument Symbol)) (arguments block) NoArgument
  unfolding arguments more_arguments next_argument
  Firm-arguments = Firm-fewer NoArgument (λ t e. (e.0, e))
      (Firm-map _ (Firm-seq_open Firm-argument (λ t e. comma_apart t e) Lawful-more_arguments))

  Firm-passed : Firm Token (List (Argument Symbol)) (passed block) Anything
  unfolding passed arguments argument
  Firm-passed = Firm-map _ (Firm-seq (Firm-spaced (Firm-delimiter delimiters.Open))
      (λ t e. port_no_end t.kind t.from t.to e)
      (Firm-seq Firm-arguments (λ t e. close_apart t e) (Firm-delimiter delimiters.Close)))

pub Firm-call : Firm Token (Name × List (Argument Symbol)) call NoOpen
unfolding call passed
Firm-call = Firm-fewer NoOpen (λ t e. (tt, (tt, e)))
    (Firm-select Firm-name (λ block t e. tt) (λ block. Lawful-map _ _ _ _ _ _ (from_opt (Firm-passed block))))
