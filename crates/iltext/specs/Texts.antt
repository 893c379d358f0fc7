-- The grammar of texts (IEC 61131-3, 2.3.3.1, 2.4.3, 2.7.1 and 3.2, with this project's profile), as items over tokens.
-- Lines with neither a label nor an instruction are left out, and each line needs its end of line.
use Rattle.std.specs.Prelude.{List, [], ◌∷◌, Option}
use Rattle.iltokens.specs.Items.{Item, map, seq, lead, opt, alt, many}
use Rattle.ilsource.specs.Configurations.{Configured}
use Rattle.ilsource.specs.Programs.{DeclaredNames, Written}
use Rattle.ilsource.specs.declared.source.Element.{Element}
use Rattle.ilsource.specs.declared.source.Element.TheVariants as elements
use Rattle.iltokens.specs.declared.keyword.Keyword.TheVariants as words
use Rattle.iltext.specs.declared.token.Token.{Token}
use Rattle.iltext.specs.Terminals.{word, name, line_ends, spaced}
use Rattle.iltext.specs.Instructions.{lines}
use Rattle.iltext.specs.Configurations.{configuration}
use Rattle.iltext.specs.Declarations.{type_declaration, variables, flat}
use Rattle.iltext.specs.Functions.{function}

-- the declarations of all VAR and VAR_EXTERNAL blocks in order
unfoldable pub blocks : Item Token (List DeclaredNames)
blocks = map flat (many variables)

-- PROGRAM name {variables} {line} END_PROGRAM
unfoldable pub program : Item Token Written
program = map (λ x. record { name = x.1.0; declarations = x.1.1.0; lines = x.1.1.1.0 })
    (seq (spaced (word words.Program)) (seq (spaced name) (lead blocks (lead lines (spaced (word words.EndProgram))))))

unfoldable pub derived_type : Item Token Element
derived_type = map elements.DerivedType type_declaration

unfoldable pub derived_types : Item Token (List Element)
derived_types = many derived_type

-- TYPE {type_declaration} END_TYPE
unfoldable pub types : Item Token (List Element)
types = map (λ x. x.1.0) (seq (spaced (word words.Type)) (lead derived_types (spaced (word words.EndType))))

unfoldable pub function_unit : Item Token (List Element)
function_unit = map (λ f. elements.Function f ∷ []) function

unfoldable pub program_unit : Item Token (List Element)
program_unit = map (λ p. elements.Program p ∷ []) program

-- a TYPE block, a function or a program
unfoldable pub unit : Item Token (List Element)
unit = alt types (alt function_unit program_unit)

unfoldable pub units : Item Token (List Element)
units = map flat (many unit)

-- any number of TYPE blocks, functions and programs, in any order, and at the end a configuration, if there is one
unfoldable pub text : Item Token (List Element × Option Configured)
text = map (λ x. x.1) (lead line_ends (lead units (opt configuration)))
