-- Tokens of lines, of which only the kinds matter here.
use Rattle.std.specs.Prelude.{ℕ, zero, suc, pos, List, [], ◌∷◌, ◌++◌}
use Rattle.iltokens.specs.declared.keyword.Keyword.TheVariants as words
use Rattle.iltokens.specs.declared.lexed.Delimiter.{Delimiter}
use Rattle.iltokens.specs.declared.lexed.Delimiter.TheVariants as delimiters
use Rattle.iltokens.specs.declared.lexed.What.{What}
use Rattle.iltokens.specs.declared.lexed.What.TheVariants as whats
use Rattle.iltext.specs.declared.token.Token.{Token}
use Rattle.iltext.specs.declared.token.TokenKind.TheVariants.{Good}

abbrev pub token : What → Token
token what = record { kind = Good what; from = 0; to = 1 }

abbrev pub mark : Delimiter → Token
mark delimiter = token (whats.Delimiter delimiter)

abbrev pub number : ℕ → Token
number n = token (whats.Number (pos n))

-- a call of a function: `f 1, 2`
abbrev pub called : List Token
called = token whats.Name ∷ number 1 ∷ mark delimiters.Comma ∷ number 2 ∷ mark delimiters.LineEnd ∷ []

-- LIMIT in parentheses: `ADD( 1`, `LIMIT 2, 3`, `)`
abbrev pub limited : List Token
limited =
    token (whats.Keyword words.Add)
    ∷ mark delimiters.Open
    ∷ number 1
    ∷ mark delimiters.LineEnd
    ∷ token (whats.Keyword words.Limit)
    ∷ number 2
    ∷ mark delimiters.Comma
    ∷ number 3
    ∷ mark delimiters.LineEnd
    ∷ mark delimiters.Close
    ∷ mark delimiters.LineEnd
    ∷ []

-- `ADD( 1`, with this many more such lines in it, and then `)` for each
abbrev pub opened : ℕ → List Token
opened zero = []
opened (suc n) =
    token (whats.Keyword words.Add)
    ∷ mark delimiters.Open
    ∷ number 1
    ∷ mark delimiters.LineEnd
    ∷ (opened n ++ mark delimiters.Close ∷ mark delimiters.LineEnd ∷ [])
