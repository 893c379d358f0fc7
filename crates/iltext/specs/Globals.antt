-- Declarations of global variables (IEC 61131-3, 2.4.3, with this project's profile), as items over tokens.
use Rattle.std.specs.Prelude.{List, [], ◌∷◌, Option, Some, None}
use Rattle.iltokens.specs.Items.{Item, one, map, seq, lead, select, alt, many}
use Rattle.ilsource.specs.Configurations.{DeclaredGlobals, globals_of}
use Rattle.ilsource.specs.declared.address.DirectAddress.{DirectAddress}
use Rattle.ilsource.specs.declared.name.Name.{Name}
use Rattle.iltokens.specs.declared.keyword.Keyword.TheVariants as words
use Rattle.iltokens.specs.declared.lexed.Delimiter.TheVariants as delimiters
use Rattle.iltokens.specs.declared.lexed.What.TheVariants as whats
use Rattle.iltext.specs.declared.token.TokenKind.{TokenKind}
use Rattle.iltext.specs.declared.token.TokenKind.TheVariants as kinds
use Rattle.iltext.specs.declared.token.Token.{Token}
use Rattle.iltext.specs.Terminals.{word, delimiter, name, spaced}
use Rattle.iltext.specs.Declarations.{typing, names_after, flat}

abbrev pub address_at : TokenKind → Token → Option DirectAddress
address_at (kinds.Good (whats.Address kind bus place)) t =
    Some (record { at = t.from; kind = kind; bus = bus; place = place })
address_at _ t = None

-- %QB, %IW or %IX with its numbers
unfoldable pub address : Item Token DirectAddress
address = one (λ t. address_at t.kind t)

-- AT address ":" typing, after the only name
unfoldable pub located : Name → Item Token DeclaredGlobals
located name =
    map (λ x. globals_of (name ∷ []) (Some x.1.0) x.1.1.1.0 x.1.1.1.1)
    (seq (spaced (word words.At)) (seq (spaced address) (seq (spaced (delimiter delimiters.Colon)) typing)))

-- {"," name} ":" typing, after a first name
unfoldable pub unlocated : Name → Item Token DeclaredGlobals
unlocated first =
    map (λ x. globals_of x.0 None x.1.1.0 x.1.1.1)
    (lead (names_after first) (seq (spaced (delimiter delimiters.Colon)) typing))

unfoldable pub global_named : Name → Item Token DeclaredGlobals
global_named name = alt (located name) (unlocated name)

-- name (AT address | {"," name}) ":" typing
unfoldable pub global : Item Token DeclaredGlobals
global = select (spaced name) global_named

unfoldable pub globals : Item Token (List DeclaredGlobals)
globals = many global

-- VAR_GLOBAL {global} END_VAR
unfoldable pub var_global : Item Token (List DeclaredGlobals)
var_global = map (λ x. x.1.0) (seq (spaced (word words.VarGlobal)) (lead globals (spaced (word words.EndVar))))

-- the declarations of all VAR_GLOBAL blocks in order
unfoldable pub global_blocks : Item Token (List DeclaredGlobals)
global_blocks = map flat (many var_global)
