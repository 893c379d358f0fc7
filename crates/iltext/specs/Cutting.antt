-- The tokens of a text.
use Rattle.std.specs.Prelude.{◌≡◌, ℕ, List, [], ◌∷◌}
use Rattle.iltokens.specs.declared.lexed.Lexed.TheVariants as lexed
use Rattle.iltokens.specs.Tokens.{StandsNext}
use Rattle.iltext.specs.declared.token.TokenKind.{TokenKind}
use Rattle.iltext.specs.declared.token.TokenKind.TheVariants as kinds
use Rattle.iltext.specs.declared.token.Token.{Token}

-- At a place of the text stands what is of this kind, next after blanks and comments. A bad token has no bytes.
abbrev pub Stands : List ℕ → ℕ → Token → TokenKind → Type 0
Stands text at t (kinds.Good what) = StandsNext text at (lexed.Token what t.from t.to)
Stands text at t (kinds.Bad cause) = StandsNext text at (lexed.Fault cause t.from) × (t.to ≡ t.from)

-- what follows a token: the tokens from its end on; nothing follows what begins no token
abbrev pub Follows : TokenKind → Type 0 → List Token → Type 0
Follows (kinds.Good what) Further ts = Further
Follows (kinds.Bad cause) Further ts = ts ≡ []

-- These are the tokens of the text from a place on: each stands next after the one before it, and the last stands
-- before the end of the text or is what begins no token.
abbrev pub Cuts : List ℕ → ℕ → List Token → Type 0
Cuts text at [] = StandsNext text at lexed.End
Cuts text at (t ∷ ts) = Stands text at t t.kind × Follows t.kind (Cuts text t.to ts) ts
