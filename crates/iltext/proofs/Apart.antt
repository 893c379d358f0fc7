-- What begins with neither a word nor a line end is apart from them.
use Rattle.std.proofs.Common.{◌≡◌, ◌||◌, ℕ, Bool, true, false, refl, sym, ◌∙◌}
use Rattle.std.proofs.lemmas.Bool.{false≢true}
use Rattle.iltokens.specs.declared.keyword.Keyword.{Keyword}
use Rattle.iltokens.specs.declared.lexed.Delimiter.TheVariants as delimiters
use Rattle.iltokens.specs.declared.lexed.What.TheVariants as whats
use Rattle.iltext.specs.declared.token.TokenKind.{TokenKind}
use Rattle.iltext.specs.declared.token.TokenKind.TheVariants as kinds
use Rattle.iltext.specs.declared.token.Token.{Token}
use Rattle.iltext.specs.Terminals.{word, delimiter}
use Rattle.iltext.proofs.Delimiters.{token_of, apart_word, apart_delimiter}
use Rattle.iltext.proofs.Ends.{NoEnd}

unless : (a b : Bool) → b ≡ true → (a ≡ true → b ≡ false) → a ≡ false
unless false b is other = refl
unless true b is other = absurd (false≢true (sym (other refl) ∙ is))

-- a token that begins what never begins with this word is not the word
pub no_word : (w : Keyword) (p : Token → Bool)
    → ((f g : ℕ) → p (token_of (kinds.Good (whats.Keyword w)) f g) ≡ false) → (k : TokenKind) (f g : ℕ)
    → p (token_of k f g) ≡ true → (word w).starts (token_of k f g) ≡ false
no_word w p never k f g e =
    unless ((word w).starts (token_of k f g)) (p (token_of k f g)) e (apart_word w p never k f g)

-- a token that begins what never begins with a line end is not one
pub no_end : (p : Token → Bool)
    → ((f g : ℕ) → p (token_of (kinds.Good (whats.Delimiter delimiters.LineEnd)) f g) ≡ false)
    → (k : TokenKind) (f g : ℕ) → p (token_of k f g) ≡ true → NoEnd (token_of k f g)
no_end p never k f g e =
    unless ((delimiter delimiters.LineEnd).starts (token_of k f g)) (p (token_of k f g)) e
    (apart_delimiter delimiters.LineEnd p never k f g)

pub neither : (a b : Bool) → a ≡ false → b ≡ false → a || b ≡ false
neither false b x y = y
neither true b x y = absurd (false≢true (sym x))
