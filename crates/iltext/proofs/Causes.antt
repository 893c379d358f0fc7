-- Where the causes of depth are given, the token may not stand.
use Rattle.std.proofs.Common.{◌≡◌, ◌⊎◌, ℕ, ◌<◌, ◌≤◌, Bool, true, false, List, [], ◌∷◌, ◌++◌, refl, sym, ap, inl, inr}
use Rattle.std.proofs.Common.{◌∙◌, arith}
use Rattle.std.specs.Prelude.{nat_le, nat_lt, ◌&&◌, not, if◌then◌else◌}
use Rattle.iltokens.specs.declared.keyword.Keyword.{Keyword}
use Rattle.iltokens.specs.declared.keyword.Keyword.TheVariants as words
use Rattle.iltokens.specs.declared.lexed.Delimiter.TheVariants as delimiters
use Rattle.iltokens.specs.declared.lexed.LexicalCause.TheVariants as lexical
use Rattle.iltokens.specs.declared.lexed.What.TheVariants as whats
use Rattle.iltext.specs.declared.token.TokenKind.{TokenKind}
use Rattle.iltext.specs.declared.token.TokenKind.TheVariants as kinds
use Rattle.iltext.specs.declared.token.Token.{Token}
use Rattle.iltext.specs.Roles.{is_inner}
use Rattle.iltext.specs.declared.fault.TextCause.TheVariants.{NotNested, TooDeep, Unexpected}
use Rattle.iltext.specs.Faults.{cause_at, cause_of_kind, open_after_all}
use Rattle.iltext.specs.Texts.{text}
use Rattle.iltext.proofs.Following.{no_deeper, only_inner}

-- ---- too deep

record IsDeep (count : ℕ) (kind : TokenKind) : Type 0 where
  pub opens : kind ≡ kinds.Good (whats.Delimiter delimiters.Open)
  pub most : 32 ≤ count

is_deep : (count : ℕ) (b : Bool) → nat_le 32 count ≡ b → (if b then TooDeep else Unexpected) ≡ TooDeep → 32 ≤ count
is_deep count true is e = grind arith
is_deep count false is e = absurd cc

never_deep : (b : Bool) → ¬ ((if b then NotNested else Unexpected) ≡ TooDeep)
never_deep true e = cc
never_deep false e = cc

deep_kind : (count : ℕ) (kind : TokenKind) → cause_of_kind count kind ≡ TooDeep → IsDeep count kind
deep_kind count (kinds.Good (whats.Delimiter delimiters.Open)) e =
    record { opens = refl; most = is_deep count (nat_le 32 count) refl e }
deep_kind count (kinds.Good (whats.Keyword word)) e =
    absurd (never_deep (nat_lt 0 count && not (is_inner word)) e)
deep_kind count (kinds.Bad lexical.NotAscii) e = absurd cc
deep_kind count (kinds.Bad lexical.BadToken) e = absurd cc
deep_kind count (kinds.Bad lexical.BadNumber) e = absurd cc
deep_kind count (kinds.Bad lexical.CommentOpen) e = absurd cc
deep_kind count _ e = absurd cc

pub none_too_deep : (front rest : List Token) (next : Token) → cause_at front (next ∷ rest) ≡ TooDeep
    → ¬ text.part (front ++ next ∷ [])
none_too_deep front rest next e h =
    let deep = deep_kind (open_after_all false 0 front) next.kind e in
    let low = no_deeper front next h deep.opens in
    let high = deep.most in
    omega arith

-- ---- not in parentheses

record IsOuter (count : ℕ) (kind : TokenKind) : Type 0 where
  pub word : Keyword
  pub is : kind ≡ kinds.Good (whats.Keyword word)
  pub some : 0 < count
  pub outer : is_inner word ≡ false

is_outer : (count : ℕ) (word : Keyword) (b c : Bool) → nat_lt 0 count ≡ b → is_inner word ≡ c
    → (if b && not c then NotNested else Unexpected) ≡ NotNested → IsOuter count (kinds.Good (whats.Keyword word))
is_outer count word true false b c e = record { word = word; is = refl; some = grind arith; outer = c }
is_outer count word true true b c e = absurd cc
is_outer count word false c b d e = absurd cc

never_outer : (b : Bool) → ¬ ((if b then TooDeep else Unexpected) ≡ NotNested)
never_outer true e = cc
never_outer false e = cc

outer_kind : (count : ℕ) (kind : TokenKind) → cause_of_kind count kind ≡ NotNested → IsOuter count kind
outer_kind count (kinds.Good (whats.Keyword word)) e =
    is_outer count word (nat_lt 0 count) (is_inner word) refl refl e
outer_kind count (kinds.Good (whats.Delimiter delimiters.Open)) e = absurd (never_outer (nat_le 32 count) e)
outer_kind count (kinds.Bad lexical.NotAscii) e = absurd cc
outer_kind count (kinds.Bad lexical.BadToken) e = absurd cc
outer_kind count (kinds.Bad lexical.BadNumber) e = absurd cc
outer_kind count (kinds.Bad lexical.CommentOpen) e = absurd cc
outer_kind count _ e = absurd cc

pub only_port : (front rest : List Token) (next : Token) → cause_at front (next ∷ rest) ≡ NotNested
    → text.part (front ++ next ∷ []) → next.kind ≡ kinds.Good (whats.Keyword words.R)
only_port front rest next e h =
    let its = outer_kind (open_after_all false 0 front) next.kind e in
    by its (only_inner front next its.word h its.is its.some)
  where
    by : (its : IsOuter (open_after_all false 0 front) next.kind) → (is_inner its.word ≡ true) ⊎ (its.word ≡ words.R)
        → next.kind ≡ kinds.Good (whats.Keyword words.R)
    by its (inl inner) = let no : true ≡ false = sym inner ∙ its.outer in absurd cc
    by its (inr same) = its.is ∙ ap (λ (w : Keyword). kinds.Good (whats.Keyword w)) same
