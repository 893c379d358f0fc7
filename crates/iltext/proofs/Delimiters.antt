-- Words and delimiters as items, and what each is apart from.
use Rattle.std.proofs.Common.{◌≡◌, ℕ, Bool, true, false, cond, Option, Some, None, refl, sym, ap, subst, rules}
use denote.Enum.Bare.{same_true, true_same}
use Rattle.iltokens.specs.Items.{is_in}
use Rattle.iltokens.proofs.Firm.{Firm, Firm-one}
use Rattle.iltokens.specs.declared.keyword.Keyword.{Keyword}
use Rattle.iltokens.specs.declared.lexed.Delimiter.{Delimiter}
use Rattle.iltokens.specs.contracts.keyword.Keyword.{the_type as all_words}
use Rattle.iltokens.specs.contracts.lexed.Delimiter.{the_type as all_delimiters}
use Rattle.iltext.specs.declared.token.TokenKind.{TokenKind}
use Rattle.iltokens.specs.declared.lexed.What.TheVariants as whats
use Rattle.iltext.specs.declared.token.TokenKind.TheVariants as kinds
use Rattle.iltext.specs.declared.token.Token.{Token}
use Rattle.iltext.specs.Terminals.{Seen, same_word, word, same_delimiter, delimiter}

abbrev pub Anything : Token → Type 0
Anything t = Unit {0}

-- a token of this kind somewhere
abbrev pub token_of : TokenKind → ℕ → ℕ → Token
token_of k f g = record { kind = k; from = f; to = g }

abbrev taken : Bool → Option Seen
taken b = cond b (Some tt) None

chosen : (b : Bool) → is_in (taken b) ≡ true → b ≡ true
chosen true e = refl
chosen false e = absurd cc

pub Firm-word : (w : Keyword) → Firm Token Seen (word w) Anything
unfolding word
Firm-word w = Firm-one _ (token_of (kinds.Good (whats.Keyword w)) 0 0) tt (ap taken (true_same all_words w w refl))

-- what a reserved word is apart from
pub apart_word : (w : Keyword) (p : Token → Bool)
    → ((f g : ℕ) → p (token_of (kinds.Good (whats.Keyword w)) f g) ≡ false) → (k : TokenKind) (f g : ℕ)
    → (word w).starts (token_of k f g) ≡ true → p (token_of k f g) ≡ false
unfolding word
apart_word w p h (kinds.Good (whats.Keyword v)) f g e =
    let same : w ≡ v = sym (same_true all_words (search rules) v w (chosen (same_word v w) e)) in
    subst (λ (x : Keyword). p (token_of (kinds.Good (whats.Keyword x)) f g) ≡ false) same (h f g)
apart_word w p h _ f g e = absurd cc

pub Firm-delimiter : (m : Delimiter) → Firm Token Seen (delimiter m) Anything
unfolding delimiter
Firm-delimiter m = Firm-one _ (token_of (kinds.Good (whats.Delimiter m)) 0 0) tt
    (ap taken (true_same all_delimiters m m refl))

-- what a delimiter is apart from
pub apart_delimiter : (m : Delimiter) (p : Token → Bool)
    → ((f g : ℕ) → p (token_of (kinds.Good (whats.Delimiter m)) f g) ≡ false)
    → (k : TokenKind) (f g : ℕ)
    → (delimiter m).starts (token_of k f g) ≡ true → p (token_of k f g) ≡ false
unfolding delimiter
apart_delimiter m p h (kinds.Good (whats.Delimiter n)) f g e =
    let same : m ≡ n = sym (same_true all_delimiters (search rules) n m (chosen (same_delimiter n m) e)) in
    subst (λ (x : Delimiter). p (token_of (kinds.Good (whats.Delimiter x)) f g) ≡ false) same (h f g)
apart_delimiter m p h _ f g e = absurd cc
