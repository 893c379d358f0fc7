-- How the count of open parentheses goes on over tokens, one after another.
use Rattle.std.proofs.Common.{◌≡◌, ◌⊎◌, ℕ, ◌+◌, ◌-◌, Bool, true, false, List, [], ◌∷◌, ◌++◌, refl, sym, ap, subst, ◌∙◌}
use Rattle.std.proofs.Common.{arith}
use Rattle.iltokens.specs.declared.keyword.Keyword.TheVariants as words
use Rattle.iltokens.specs.declared.lexed.Delimiter.{Delimiter}
use Rattle.iltokens.specs.declared.lexed.Delimiter.TheVariants as delimiters
use Rattle.iltokens.specs.declared.lexed.What.TheVariants as whats
use Rattle.iltext.specs.declared.token.TokenKind.{TokenKind}
use Rattle.iltext.specs.declared.token.TokenKind.TheVariants as kinds
use Rattle.iltext.specs.declared.token.Token.{Token}
use Rattle.iltext.specs.Roles.{is_inner}
use Rattle.iltext.specs.Faults.{defers, open_after, open_after_all}

-- whether an operator that may be deferred stands last, or stood just before where there are no tokens
abbrev pub ends : Bool → List Token → Bool
ends before [] = before
ends before (t ∷ ts) = ends (defers t.kind) ts

pub counted-append : (b : Bool) (m : ℕ) (u v : List Token)
    → open_after_all b m (u ++ v) ≡ open_after_all (ends b u) (open_after_all b m u) v
counted-append b m [] v = refl
counted-append b m (t ∷ u) v = counted-append (defers t.kind) (open_after b m t.kind) u v

pub ends-append : (b : Bool) (u v : List Token) → ends b (u ++ v) ≡ ends (ends b u) v
ends-append b [] v = refl
ends-append b (t ∷ u) v = ends-append (defers t.kind) u v

pub ends_last : (b : Bool) (u : List Token) (t : Token) → ends b (u ++ t ∷ []) ≡ defers t.kind
ends_last b [] t = refl
ends_last b (s ∷ u) t = ends_last (defers s.kind) u t

abbrev pub Opens : Token → Type 0
Opens t = t.kind ≡ kinds.Good (whats.Delimiter delimiters.Open)

abbrev pub Closes : Token → Type 0
Closes t = t.kind ≡ kinds.Good (whats.Delimiter delimiters.Close)

-- `(` after an operator that may be deferred opens one
pub opened : (m : ℕ) (p : Token) (v : List Token) → Opens p
    → open_after_all true m (p ∷ v) ≡ open_after_all false (m + 1) v
opened m p v e = ap (λ (k : TokenKind). open_after_all (defers k) (open_after true m k) v) e

-- and `)` closes it
pub closed : (m : ℕ) (t : Token) → Closes t → open_after_all false (m + 1) (t ∷ []) ≡ m
closed m t e =
    let less : m + 1 - 1 ≡ m = omega arith in
    ap (λ (k : TokenKind). open_after false (m + 1) k) e ∙ less

pub no_operator : (t : Token) → Closes t → defers t.kind ≡ false
no_operator t e = ap defers e

-- after an operator that may be deferred and `(`
pub opened_after : (b : Bool) (m : ℕ) (u : List Token) (o p : Token) (v : List Token) → defers o.kind ≡ true → Opens p
    → open_after_all b m (u ++ o ∷ p ∷ v) ≡ open_after_all false (open_after_all b m (u ++ o ∷ []) + 1) v
opened_after b m u o p v d e =
    counted-append b m u (o ∷ p ∷ v)
    ∙ ap (λ (c : Bool). open_after_all c (open_after (ends b u) (open_after_all b m u) o.kind) (p ∷ v)) d
    ∙ opened (open_after (ends b u) (open_after_all b m u) o.kind) p v e
    ∙ ap (λ (n : ℕ). open_after_all false (n + 1) v) (sym (counted-append b m u (o ∷ [])))

-- ---- tokens in parentheses

-- a word that may stand in parentheses, by itself or as the name of a port
abbrev pub MayNest : TokenKind → Type 0
MayNest (kinds.Good (whats.Keyword word)) = (is_inner word ≡ true) ⊎ (word ≡ words.R)
MayNest _ = Unit {0}

-- `(` stands only right after an operator that may be deferred, and each word may stand there
abbrev pub AreInner : Bool → List Token → Type 0
AreInner before [] = Unit {0}
AreInner before (t ∷ ts) = (Opens t → before ≡ true) × MayNest t.kind × AreInner (defers t.kind) ts

pub inner-append : (b : Bool) (u v : List Token) → AreInner b u → AreInner (ends b u) v → AreInner b (u ++ v)
inner-append b [] v h k = k
inner-append b (t ∷ u) v h k = (h.0, h.1, inner-append (defers t.kind) u v h.2 k)

-- the last token of such tokens
pub inner_last : (b : Bool) (u : List Token) (t : Token) → AreInner b (u ++ t ∷ [])
    → (Opens t → ends b u ≡ true) × MayNest t.kind
inner_last b [] t h = (h.0, h.1)
inner_last b (s ∷ u) t h = inner_last (defers s.kind) u t h.2

pub delimiter_nests : (t : Token) (m : Delimiter) → t.kind ≡ kinds.Good (whats.Delimiter m) → MayNest t.kind
delimiter_nests t m e = subst MayNest (sym e) tt

pub closes_none : (t : Token) → Closes t → ¬ Opens t
closes_none t e f =
    let both : kinds.Good (whats.Delimiter delimiters.Close) ≡ kinds.Good (whats.Delimiter delimiters.Open) =
    sym e ∙ f in
    absurd cc
