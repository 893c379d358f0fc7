-- Functions (IEC 61131-3, 2.5.1, with this project's profile), as items over tokens.
use Rattle.std.specs.Prelude.{ℕ, List, [], Option, Some, None, unwrap_or}
use Rattle.iltokens.specs.Items.{Item, one, map, seq, lead, opt, many}
use Rattle.ilsource.specs.Programs.{DeclaredNames, WrittenFunction}
use Rattle.ilsource.specs.declared.declaration.Declared.TheVariants as declareds
use Rattle.iltokens.specs.declared.keyword.Keyword.TheVariants as words
use Rattle.iltokens.specs.declared.lexed.Delimiter.TheVariants as delimiters
use Rattle.iltokens.specs.declared.lexed.What.TheVariants as whats
use Rattle.iltext.specs.declared.token.TokenKind.{TokenKind}
use Rattle.iltext.specs.declared.token.TokenKind.TheVariants as kinds
use Rattle.iltext.specs.declared.token.Token.{Token}
use Rattle.iltext.specs.Terminals.{word, delimiter, name, spaced}
use Rattle.iltext.specs.Instructions.{lines}
use Rattle.iltext.specs.declared.functions.FunctionHead.{FunctionHead}
use Rattle.iltext.specs.Declarations.{specification, names, vars}

-- ---- inputs

-- names ":" specification ";"
unfoldable pub input : Item Token DeclaredNames
input = map (λ x. record { names = x.0; declared = declareds.Variables x.1.1.0 None })
    (seq names (seq (spaced (delimiter delimiters.Colon))
    (seq specification (spaced (delimiter delimiters.Semicolon)))))

unfoldable pub inputs : Item Token (List DeclaredNames)
inputs = many input

-- VAR_INPUT {input} END_VAR
unfoldable pub var_input : Item Token (List DeclaredNames)
var_input = map (λ x. x.1.0) (seq (spaced (word words.VarInput)) (lead inputs (spaced (word words.EndVar))))

-- ---- functions

abbrev pub function_at : TokenKind → ℕ → Option ℕ
function_at (kinds.Good (whats.Keyword words.Function)) at = Some at
function_at _ at = None

-- FUNCTION, by its place
unfoldable pub function_word : Item Token ℕ
function_word = one (λ t. function_at t.kind t.from)

-- FUNCTION name ":" specification
unfoldable pub head : Item Token FunctionHead
head = map (λ x. record { at = x.0; name = x.1.0; result_type = x.1.1.1 })
    (seq (spaced function_word) (seq (spaced name) (seq (spaced (delimiter delimiters.Colon)) specification)))

-- [VAR {declaration} END_VAR]
unfoldable pub own_variables : Item Token (List DeclaredNames)
own_variables = map (λ declarations. unwrap_or declarations []) (opt vars)

-- head VAR_INPUT {input} END_VAR [VAR {declaration} END_VAR] {line} END_FUNCTION
unfoldable pub function : Item Token WrittenFunction
function =
    map
    (λ x. record {
      at = x.0.at;
      name = x.0.name;
      result_type = x.0.result_type;
      inputs = x.1.0;
      variables = x.1.1.0;
      lines = x.1.1.1.0;
    })
    (seq head (seq var_input (lead own_variables (lead lines (spaced (word words.EndFunction))))))
