-- Declarations of types and of variables (IEC 61131-3, 2.3.3.1 and 2.4.3, with this project's profile), as items over
-- tokens.
use Rattle.std.specs.Prelude.{ℤ, List, [], ◌∷◌, flat_map, Option, Some, None}
use Rattle.iltypes.specs.declared.function.IntegerType.{IntegerType}
use Rattle.iltypes.specs.declared.function.IntegerType.TheVariants as integers
use Rattle.ilblocks.specs.declared.kind.BlockKind.{BlockKind}
use Rattle.ilblocks.specs.declared.kind.BlockKind.TheVariants as blocks
use Rattle.iltokens.specs.Items.{Item, one, map, seq, lead, select, opt, alt, many}
use Rattle.ilsource.specs.declared.name.Name.{Name}
use Rattle.ilsource.specs.declared.declaration.Constant.{Constant}
use Rattle.ilsource.specs.declared.declaration.Specification.{Specification}
use Rattle.ilsource.specs.declared.declaration.Specification.TheVariants as specifications
use Rattle.ilsource.specs.declared.declaration.TypeDeclaration.{TypeDeclaration}
use Rattle.ilsource.specs.declared.declaration.Declared.{Declared}
use Rattle.ilsource.specs.declared.declaration.Declared.TheVariants as declareds
use Rattle.ilsource.specs.Programs.{DeclaredNames}
use Rattle.iltokens.specs.declared.keyword.Keyword.{Keyword}
use Rattle.iltokens.specs.declared.keyword.Keyword.TheVariants as words
use Rattle.iltokens.specs.declared.lexed.Delimiter.TheVariants as delimiters
use Rattle.iltokens.specs.declared.lexed.What.TheVariants as whats
use Rattle.iltext.specs.declared.token.TokenKind.{TokenKind}
use Rattle.iltext.specs.declared.token.TokenKind.TheVariants as kinds
use Rattle.iltext.specs.declared.token.Token.{Token}
use Rattle.iltext.specs.Terminals.{word, delimiter, name, number, constant, spaced}

-- ---- types

abbrev pub integer_word : Keyword → Option IntegerType
integer_word words.Sint = Some integers.Sint
integer_word words.Int = Some integers.Int
integer_word words.Dint = Some integers.Dint
integer_word words.Usint = Some integers.Usint
integer_word words.Uint = Some integers.Uint
integer_word words.Udint = Some integers.Udint
integer_word _ = None

abbrev pub integer_at : TokenKind → Option IntegerType
integer_at (kinds.Good (whats.Keyword w)) = integer_word w
integer_at _ = None

-- SINT, INT, DINT, USINT, UINT, UDINT
unfoldable pub integer : Item Token IntegerType
integer = one (λ t. integer_at t.kind)

abbrev pub simple_word : Keyword → Option Specification
simple_word words.Bool = Some specifications.Bool
simple_word words.Time = Some specifications.Time
simple_word _ = None

abbrev pub simple_at : TokenKind → Token → Option Specification
simple_at (kinds.Good (whats.Keyword w)) t = simple_word w
simple_at (kinds.Good whats.Name) t = Some (specifications.Named (record { from = t.from; to = t.to }))
simple_at _ t = None

-- BOOL, TIME, the name of a type
unfoldable pub simple : Item Token Specification
simple = one (λ t. simple_at t.kind t)

-- "(" number ".." number ")"
unfoldable pub interval : Item Token (ℤ × ℤ)
interval = map (λ x. (x.1.0, x.1.1.1.0))
    (seq (spaced (delimiter delimiters.Open)) (seq (spaced number) (seq (spaced (delimiter delimiters.Range))
    (seq (spaced number) (spaced (delimiter delimiters.Close))))))

abbrev pub within : IntegerType → Option (ℤ × ℤ) → Specification
within base None = specifications.Integer base
within base (Some x) = specifications.Subrange base x.0 x.1

-- an integer type, or a subrange of one
unfoldable pub range : Item Token Specification
range = map (λ x. within x.0 x.1) (seq (spaced integer) (opt interval))

unfoldable pub specification : Item Token Specification
specification = alt (spaced simple) range

-- [":=" constant]
unfoldable pub initial : Item Token (Option Constant)
initial = opt (map (λ x. x.1) (seq (spaced (delimiter delimiters.Assign)) (spaced constant)))

-- specification [":=" constant] ";"
unfoldable pub typing : Item Token (Specification × Option Constant)
typing = map (λ x. (x.0, x.1.0)) (seq specification (lead initial (spaced (delimiter delimiters.Semicolon))))

-- name ":" typing
unfoldable pub type_declaration : Item Token TypeDeclaration
type_declaration = map (λ x. record { name = x.0; specification = x.1.1.0; initial = x.1.1.1 })
    (seq (spaced name) (seq (spaced (delimiter delimiters.Colon)) typing))

-- ---- variables and block instances

-- "," name
unfoldable pub next_name : Item Token Name
next_name = map (λ x. x.1) (seq (spaced (delimiter delimiters.Comma)) (spaced name))

unfoldable pub more_names : Item Token (List Name)
more_names = many next_name

-- {"," name}, after a first name
unfoldable pub names_after : Name → Item Token (List Name)
names_after first = map (λ names. first ∷ names) more_names

-- name {"," name}
unfoldable pub names : Item Token (List Name)
names = select (spaced name) names_after

-- the kind of function block that a word is (2.5.2.3, and those of requests by the profile)
abbrev pub block_of_word : Keyword → Option BlockKind
block_of_word words.RTrig = Some blocks.RTrig
block_of_word words.Ctu = Some blocks.Ctu
block_of_word words.Ton = Some blocks.Ton
block_of_word words.GearLevel = Some blocks.GearLevel
block_of_word words.GearDo = Some blocks.GearDo
block_of_word words.GearSet = Some blocks.GearSet
block_of_word words.GearPair = Some blocks.GearPair
block_of_word words.GearAsk = Some blocks.GearAsk
block_of_word words.GearRead = Some blocks.GearRead
block_of_word words.DevDo = Some blocks.DevDo
block_of_word words.DevScheme = Some blocks.DevScheme
block_of_word words.DevAsk = Some blocks.DevAsk
block_of_word _ = None

abbrev pub block_at : TokenKind → Option BlockKind
block_at (kinds.Good (whats.Keyword w)) = block_of_word w
block_at _ = None

-- the word of a kind of function block
unfoldable pub block : Item Token BlockKind
block = one (λ t. block_at t.kind)

-- block ";"
unfoldable pub instances : Item Token BlockKind
instances = map (λ x. x.0) (seq (spaced block) (spaced (delimiter delimiters.Semicolon)))

-- block ";", or typing
unfoldable pub declared : Item Token Declared
declared = alt (map declareds.Blocks instances) (map (λ x. declareds.Variables x.0 x.1) typing)

-- names ":" declared
unfoldable pub declaration : Item Token DeclaredNames
declaration = map (λ x. record { names = x.0; declared = x.1.1 })
    (seq names (seq (spaced (delimiter delimiters.Colon)) declared))

unfoldable pub declarations : Item Token (List DeclaredNames)
declarations = many declaration

-- VAR {declaration} END_VAR
unfoldable pub vars : Item Token (List DeclaredNames)
vars = map (λ x. x.1.0) (seq (spaced (word words.Var)) (lead declarations (spaced (word words.EndVar))))

-- ---- externals

-- name ":" specification ";"
unfoldable pub external : Item Token DeclaredNames
external = map (λ x. record { names = x.0 ∷ []; declared = declareds.External x.1.1.0 })
    (seq (spaced name) (seq (spaced (delimiter delimiters.Colon))
    (seq specification (spaced (delimiter delimiters.Semicolon)))))

unfoldable pub externals : Item Token (List DeclaredNames)
externals = many external

-- VAR_EXTERNAL {external} END_VAR
unfoldable pub var_external : Item Token (List DeclaredNames)
var_external = map (λ x. x.1.0) (seq (spaced (word words.VarExternal)) (lead externals (spaced (word words.EndVar))))

-- a VAR or VAR_EXTERNAL block
unfoldable pub variables : Item Token (List DeclaredNames)
variables = alt vars var_external

-- one list after the other, as those of several blocks
abbrev pub flat : {A : Type 0} → List (List A) → List A
flat = flat_map (λ xs. xs)
