-- Programs, TYPE blocks and texts are lawful.
use Rattle.std.proofs.Common.{◌≡◌, ℕ, Bool, true, false, List, Option, refl}
use Rattle.std.proofs.lemmas.Bool.{false≢true}
use Rattle.iltokens.specs.Items.{Item, lead, opt, alt}
use Rattle.iltokens.proofs.Laws.{Lawful, Lawful-map, Lawful-lead_open}
use Rattle.iltokens.proofs.Firm.{Firm, Firm-map, Firm-seq, Firm-lead, Firm-alt, Firm-fewer, from_opt, from_many}
use Rattle.ilsource.specs.Configurations.{Configured}
use Rattle.ilsource.specs.Programs.{DeclaredNames, Written}
use Rattle.ilsource.specs.declared.source.Element.{Element}
use Rattle.iltokens.specs.declared.keyword.Keyword.TheVariants as words
use Rattle.iltokens.specs.declared.lexed.Delimiter.TheVariants as delimiters
use Rattle.iltokens.specs.declared.lexed.What.TheVariants as whats
use Rattle.iltext.specs.declared.token.TokenKind.{TokenKind}
use Rattle.iltext.specs.declared.token.TokenKind.TheVariants as kinds
use Rattle.iltext.specs.declared.token.Token.{Token}
use Rattle.iltext.specs.Roles.{role_of_word}
use Rattle.iltext.specs.Terminals.{Seen, word, delimiter, name, spaced}
use Rattle.iltext.specs.Instructions.{TextLine, operation, named_line, line, lines}
use Rattle.iltext.proofs.Delimiters.{token_of, Firm-word, apart_word}
use Rattle.iltext.proofs.Ends.{NoEnd, Firm-name, Firm-spaced, Lawful-line_ends, word_no_end, name_no_end}
use Rattle.iltext.proofs.InstructionLaws.{NoLine, Lawful-lines}
use Rattle.iltext.specs.Configurations.{configuration}
use Rattle.iltext.specs.Declarations.{type_declaration, vars, var_external, variables}
use Rattle.iltext.specs.Functions.{function_word, head, function}
use Rattle.iltext.specs.Texts.{blocks, program, derived_type, derived_types, types, function_unit, program_unit, unit}
use Rattle.iltext.specs.Texts.{units, text}
use Rattle.iltext.proofs.Apart.{neither, no_word, no_end}
use Rattle.iltext.proofs.ConfigurationLaws.{Firm-configuration}
use Rattle.iltext.proofs.DeclarationLaws.{NoName, Firm-type_declaration, last_apart, Firm-variables}
use Rattle.iltext.proofs.FunctionLaws.{Firm-function}

-- ---- programs

abbrev NoVar : Token → Type 0
NoVar t = variables.starts t ≡ false

end_program_apart : (t : Token) → (word words.EndProgram).starts t ≡ true → NoEnd t × NoLine t
unfolding line named_line name operation role_of_word
end_program_apart t e = (
  word_no_end words.EndProgram t e,
  apart_word words.EndProgram line.starts (λ f g. refl) t.kind t.from t.to e,
)

Firm-body : Firm Token (List TextLine × Seen) (lead lines (spaced (word words.EndProgram))) NoEnd
unfolding lines
Firm-body = Firm-lead Lawful-lines (λ t e. end_program_apart t e) (Firm-spaced (Firm-word words.EndProgram))

variables_no_end : (k : TokenKind) (f g : ℕ) → variables.starts (token_of k f g) ≡ true → NoEnd (token_of k f g)
unfolding variables vars var_external word delimiter
variables_no_end (kinds.Good (whats.Delimiter m)) f g e = absurd (false≢true e)
variables_no_end _ f g e = refl

Lawful-blocks : Lawful Token (List DeclaredNames) blocks (λ t. NoEnd t × NoVar t)
unfolding blocks
Lawful-blocks = Lawful-map _ _ _ _ _ _ (from_many (λ t e. variables_no_end t.kind t.from t.to e) Firm-variables)

abbrev begins_body : Token → Bool
begins_body t = (lead lines (spaced (word words.EndProgram))).starts t

body_apart : (k : TokenKind) (f g : ℕ) → begins_body (token_of k f g) ≡ true
    → NoEnd (token_of k f g) × NoVar (token_of k f g)
unfolding variables vars var_external lines line named_line name operation role_of_word word delimiter
body_apart k f g e = (
  no_end begins_body (λ f g. refl) k f g e,
  neither _ _ (no_word words.Var begins_body (λ f g. refl) k f g e)
      (no_word words.VarExternal begins_body (λ f g. refl) k f g e),
)

Firm-inside : Firm Token (List DeclaredNames × (List TextLine × Seen))
    (lead blocks (lead lines (spaced (word words.EndProgram)))) NoEnd
unfolding blocks
Firm-inside = Firm-lead {b = lead lines (spaced (word words.EndProgram))} Lawful-blocks
    (λ t e. body_apart t.kind t.from t.to e) Firm-body

inside_apart : (k : TokenKind) (f g : ℕ)
    → (lead blocks (lead lines (spaced (word words.EndProgram)))).starts (token_of k f g) ≡ true
    → NoEnd (token_of k f g)
unfolding blocks variables vars var_external lines line named_line name operation word delimiter
inside_apart (kinds.Good (whats.Delimiter delimiters.LineEnd)) f g e = absurd (false≢true e)
inside_apart _ f g e = refl

pub Firm-program : Firm Token Written program NoEnd
unfolding program
Firm-program = Firm-map _ (Firm-seq (Firm-spaced (Firm-word words.Program)) (λ t e. name_no_end t.kind t.from t.to e)
    (Firm-seq {b = lead blocks (lead lines (spaced (word words.EndProgram)))} (Firm-spaced Firm-name)
    (λ t e. inside_apart t.kind t.from t.to e) Firm-inside))

-- ---- types

pub Firm-derived_type : Firm Token Element derived_type NoEnd
unfolding derived_type
Firm-derived_type = Firm-map _ Firm-type_declaration

Lawful-derived_types : Lawful Token (List Element) derived_types (λ t. NoEnd t × NoName t)
unfolding derived_types derived_type type_declaration
Lawful-derived_types = from_many (λ t e. name_no_end t.kind t.from t.to e) Firm-derived_type

types_no_end : (k : TokenKind) (f g : ℕ)
    → (lead derived_types (spaced (word words.EndType))).starts (token_of k f g) ≡ true → NoEnd (token_of k f g)
unfolding derived_types derived_type type_declaration name word delimiter
types_no_end (kinds.Good (whats.Delimiter m)) f g e = absurd (false≢true e)
types_no_end _ f g e = refl

Firm-types : Firm Token (List Element) types NoEnd
unfolding types
Firm-types = Firm-map _ (Firm-seq (Firm-spaced (Firm-word words.Type)) (λ t e. types_no_end t.kind t.from t.to e)
    (Firm-lead Lawful-derived_types (λ t e. last_apart words.EndType t e) (Firm-spaced (Firm-word words.EndType))))

-- ---- texts

-- none of the words TYPE, FUNCTION and PROGRAM is another
abbrev others : Item Token (List Element)
others = alt function_unit program_unit

type_apart : (k : TokenKind) (f g : ℕ) → others.starts (token_of k f g) ≡ true → types.starts (token_of k f g) ≡ false
unfolding types function_unit function head function_word program_unit program word
type_apart k f g e = no_word words.Type others.starts (λ f g. refl) k f g e

program_apart : (t : Token) → program_unit.starts t ≡ true → function_unit.starts t ≡ false
unfolding function_unit function head function_word program_unit program
program_apart t e = apart_word words.Program function_unit.starts (λ f g. refl) t.kind t.from t.to e

Firm-function_unit : Firm Token (List Element) function_unit NoEnd
unfolding function_unit
Firm-function_unit = Firm-map _ Firm-function

Firm-program_unit : Firm Token (List Element) program_unit NoEnd
unfolding program_unit
Firm-program_unit = Firm-map _ Firm-program

pub Firm-unit : Firm Token (List Element) unit NoEnd
unfolding unit
Firm-unit = Firm-fewer NoEnd (λ t e. (e, (e, e)))
    (Firm-alt Firm-types (λ t e. type_apart t.kind t.from t.to e)
    (Firm-alt Firm-function_unit (λ t e. program_apart t e) Firm-program_unit))

abbrev NoUnit : Token → Type 0
NoUnit t = unit.starts t ≡ false

unit_no_end : (k : TokenKind) (f g : ℕ) → unit.starts (token_of k f g) ≡ true → NoEnd (token_of k f g)
unfolding unit types function_unit function head function_word program_unit program word delimiter
unit_no_end (kinds.Good (whats.Delimiter m)) f g e = absurd (false≢true e)
unit_no_end _ f g e = refl

Lawful-units : Lawful Token (List Element) units (λ t. NoEnd t × NoUnit t)
unfolding units
Lawful-units = Lawful-map _ _ _ _ _ _ (from_many (λ t e. unit_no_end t.kind t.from t.to e) Firm-unit)

configuration_apart : (k : TokenKind) (f g : ℕ) → configuration.starts (token_of k f g) ≡ true
    → NoEnd (token_of k f g) × NoUnit (token_of k f g)
unfolding configuration unit types function_unit function head function_word program_unit program word delimiter
configuration_apart k f g e = (
  word_no_end words.Configuration (token_of k f g) e,
  apart_word words.Configuration unit.starts (λ f g. refl) k f g e,
)

-- what may not follow types, programs and a configuration
abbrev NoPart : Token → Type 0
NoPart t = (NoEnd t × NoUnit t) × (NoEnd t × (configuration.starts t ≡ false))

Lawful-parts : Lawful Token (List Element × Option Configured) (lead units (opt configuration)) NoPart
unfolding units
Lawful-parts = Lawful-lead_open _ _ _ _ _ _ _ Lawful-units (from_opt Firm-configuration)
    (λ t e. configuration_apart t.kind t.from t.to e)

part_no_end : (k : TokenKind) (f g : ℕ) → (lead units (opt configuration)).starts (token_of k f g) ≡ true
    → NoEnd (token_of k f g)
unfolding units unit types function_unit function head function_word program_unit program configuration word delimiter
part_no_end (kinds.Good (whats.Delimiter m)) f g e = absurd (false≢true e)
part_no_end _ f g e = refl

pub Lawful-text : Lawful Token (List Element × Option Configured) text (λ t. NoEnd t × NoPart t)
unfolding text
Lawful-text = Lawful-map _ _ _ _ _ _ (Lawful-lead_open _ _ _ _ _ _ _ Lawful-line_ends Lawful-parts
    (λ t e. part_no_end t.kind t.from t.to e))
