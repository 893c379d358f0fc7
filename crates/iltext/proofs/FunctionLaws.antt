-- Functions are lawful.
use Rattle.std.proofs.Common.{◌≡◌, ℕ, Bool, true, false, List, refl}
use Rattle.std.proofs.lemmas.Bool.{false≢true}
use Rattle.iltokens.specs.Items.{lead}
use Rattle.iltokens.proofs.Laws.{Lawful, Lawful-map}
use Rattle.iltokens.proofs.Firm.{Firm, Firm-one, Firm-map, Firm-seq, Firm-lead, from_opt, from_many}
use Rattle.ilsource.specs.Programs.{DeclaredNames, WrittenFunction}
use Rattle.iltokens.specs.declared.keyword.Keyword.TheVariants as words
use Rattle.iltokens.specs.declared.lexed.Delimiter.TheVariants as delimiters
use Rattle.iltokens.specs.declared.lexed.What.TheVariants as whats
use Rattle.iltext.specs.declared.token.TokenKind.{TokenKind}
use Rattle.iltext.specs.declared.token.TokenKind.TheVariants as kinds
use Rattle.iltext.specs.declared.token.Token.{Token}
use Rattle.iltext.specs.Roles.{role_of_word}
use Rattle.iltext.specs.Terminals.{Seen, word, delimiter, name, spaced}
use Rattle.iltext.specs.Instructions.{TextLine, operation, named_line, line, lines}
use Rattle.iltext.proofs.Delimiters.{Anything, token_of, Firm-word, Firm-delimiter, apart_word}
use Rattle.iltext.proofs.Ends.{NoEnd, NoOpen, Firm-name, Firm-spaced, word_no_end, name_no_end}
use Rattle.iltext.proofs.InstructionLaws.{NoLine, Lawful-lines}
use Rattle.iltext.specs.declared.functions.FunctionHead.{FunctionHead}
use Rattle.iltext.specs.Declarations.{names, vars}
use Rattle.iltext.specs.Functions.{input, inputs, var_input, function_word, head, own_variables, function}
use Rattle.iltext.proofs.Apart.{no_word, no_end}
use Rattle.iltext.proofs.DeclarationLaws.{NoName, Firm-specification, specification_no_end, colon_apart, close_apart}
use Rattle.iltext.proofs.DeclarationLaws.{Firm-names, Firm-vars, last_apart}

-- ---- inputs

pub Firm-input : Firm Token DeclaredNames input NoEnd
unfolding input
Firm-input = Firm-map _ (Firm-seq Firm-names (λ t e. colon_apart t e)
    (Firm-seq (Firm-spaced (Firm-delimiter delimiters.Colon)) (λ t e. specification_no_end t.kind t.from t.to e)
    (Firm-seq Firm-specification (λ t e. close_apart t e) (Firm-spaced (Firm-delimiter delimiters.Semicolon)))))

Lawful-inputs : Lawful Token (List DeclaredNames) inputs (λ t. NoEnd t × NoName t)
unfolding inputs input names
Lawful-inputs = from_many (λ t e. name_no_end t.kind t.from t.to e) Firm-input

inputs_no_end : (k : TokenKind) (f g : ℕ)
    → (lead inputs (spaced (word words.EndVar))).starts (token_of k f g) ≡ true
    → NoEnd (token_of k f g)
unfolding inputs input names name word delimiter
inputs_no_end (kinds.Good (whats.Delimiter m)) f g e = absurd (false≢true e)
inputs_no_end _ f g e = refl

pub Firm-var_input : Firm Token (List DeclaredNames) var_input NoEnd
unfolding var_input
Firm-var_input = Firm-map _ (Firm-seq (Firm-spaced (Firm-word words.VarInput))
    (λ t e. inputs_no_end t.kind t.from t.to e)
    (Firm-lead Lawful-inputs (λ t e. last_apart words.EndVar t e) (Firm-spaced (Firm-word words.EndVar))))

-- ---- what stands before and after the inputs

Firm-function_word : Firm Token ℕ function_word Anything
unfolding function_word
Firm-function_word = Firm-one _ (token_of (kinds.Good (whats.Keyword words.Function)) 0 0) 0 refl

Firm-head : Firm Token FunctionHead head (λ t. NoEnd t × NoOpen t)
unfolding head
Firm-head = Firm-map _ (Firm-seq (Firm-spaced Firm-function_word) (λ t e. name_no_end t.kind t.from t.to e)
    (Firm-seq (Firm-spaced Firm-name) (λ t e. (colon_apart t e).0)
    (Firm-seq (Firm-spaced (Firm-delimiter delimiters.Colon)) (λ t e. specification_no_end t.kind t.from t.to e)
    Firm-specification)))

abbrev NoVar : Token → Type 0
NoVar t = vars.starts t ≡ false

pub Lawful-own_variables : Lawful Token (List DeclaredNames) own_variables (λ t. NoEnd t × NoVar t)
unfolding own_variables
Lawful-own_variables = Lawful-map _ _ _ _ _ _ (from_opt Firm-vars)

-- ---- lines

end_function_apart : (t : Token) → (word words.EndFunction).starts t ≡ true → NoEnd t × NoLine t
unfolding line named_line name operation role_of_word
end_function_apart t e = (
  word_no_end words.EndFunction t e,
  apart_word words.EndFunction line.starts (λ f g. refl) t.kind t.from t.to e,
)

Firm-body : Firm Token (List TextLine × Seen) (lead lines (spaced (word words.EndFunction))) NoEnd
unfolding lines
Firm-body = Firm-lead Lawful-lines (λ t e. end_function_apart t e) (Firm-spaced (Firm-word words.EndFunction))

abbrev begins_body : Token → Bool
begins_body t = (lead lines (spaced (word words.EndFunction))).starts t

body_apart : (k : TokenKind) (f g : ℕ) → begins_body (token_of k f g) ≡ true
    → NoEnd (token_of k f g) × NoVar (token_of k f g)
unfolding vars lines line named_line name operation role_of_word word delimiter
body_apart k f g e = (
  no_end begins_body (λ f g. refl) k f g e,
  no_word words.Var begins_body (λ f g. refl) k f g e,
)

Firm-inside : Firm Token (List DeclaredNames × (List TextLine × Seen))
    (lead own_variables (lead lines (spaced (word words.EndFunction)))) NoEnd
unfolding own_variables
Firm-inside = Firm-lead {b = lead lines (spaced (word words.EndFunction))} Lawful-own_variables
    (λ t e. body_apart t.kind t.from t.to e) Firm-body

inside_apart : (k : TokenKind) (f g : ℕ)
    → (lead own_variables (lead lines (spaced (word words.EndFunction)))).starts (token_of k f g) ≡ true
    → NoEnd (token_of k f g)
unfolding own_variables vars lines line named_line name operation word delimiter
inside_apart (kinds.Good (whats.Delimiter delimiters.LineEnd)) f g e = absurd (false≢true e)
inside_apart _ f g e = refl

-- ---- functions

var_input_apart : (t : Token) → (word words.VarInput).starts t ≡ true → NoEnd t × NoOpen t
unfolding delimiter
var_input_apart t e = (
  word_no_end words.VarInput t e,
  apart_word words.VarInput (delimiter delimiters.Open).starts (λ f g. refl) t.kind t.from t.to e,
)

pub Firm-function : Firm Token WrittenFunction function NoEnd
unfolding function var_input
Firm-function = Firm-map _ (Firm-seq Firm-head (λ t e. var_input_apart t e)
    (Firm-seq {b = lead own_variables (lead lines (spaced (word words.EndFunction)))} Firm-var_input
    (λ t e. inside_apart t.kind t.from t.to e) Firm-inside))
