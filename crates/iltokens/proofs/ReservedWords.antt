-- The reserved words are found in their table, each by its spelling, and no text is spelled as two of them.
use Rattle.std.proofs.Common.{◌≡◌, ℕ, ◌-◌, Bool, true, false, cond, List, [], ◌∷◌, ◌++◌, length, map}
use Rattle.std.proofs.Common.{take, Option, Some, None, MatchOption, refl, sym, ap, ◌∙◌, arith, length-append}
use Rattle.std.specs.Char.{to_ascii_lowercase}
use Rattle.std.specs.Str.{str_eq_ignore_ascii_case}
use Rattle.std.proofs.lemmas.Slice.Eq.{bytes_eq-Decides}
use Rattle.std.proofs.Math.Seq.{take-append_seam}
use Rattle.iltokens.specs.declared.keyword.Keyword.{Keyword}
use Rattle.iltokens.specs.declared.keyword.Keyword.TheVariants as words
use Rattle.iltokens.specs.declared.lexed.What.TheVariants as whats
use Rattle.iltokens.specs.Keywords.{spelling_of, IsSpelled}
use Rattle.iltokens.specs.KeywordSteps.{word_rows, reserved_words, lookup, keyword}
use Rattle.iltokens.specs.FrontSteps.{kind_of_word, word_kind}
use Rattle.iltokens.specs.Longest.{IsWithin}
use Rattle.iltokens.specs.Spellings.{IsName, Spells}

abbrev Row : Type 0
Row = List ℕ × Keyword

-- ---- what the table has is spelled

-- each row has the spelling of its word
abbrev AreSpelled : List Row → Type 0
AreSpelled ks = map (λ (k : Row). k.0) ks ≡ map (λ (k : Row). spelling_of k.1) ks

each_spelled : AreSpelled reserved_words
unfolding word_rows reserved_words
each_spelled = refl

row_found : (ks : List Row) (text : List ℕ) (w : Keyword) → AreSpelled ks → lookup ks text ≡ Some w → IsSpelled text w
unfolding IsSpelled
row_found [] text w are e = absurd cc
row_found (k ∷ ks) text w are e =
    go (str_eq_ignore_ascii_case k.0 text) refl e (row_found ks text w (cc))
  where
    go : (b : Bool) → str_eq_ignore_ascii_case k.0 text ≡ b → cond b (Some k.1) (lookup ks text) ≡ Some w
        → (lookup ks text ≡ Some w → IsSpelled text w) → IsSpelled text w
    go true is e ih =
        let same : k.1 ≡ w = cc in
        let spelled : k.0 ≡ spelling_of k.1 = cc in
        sym ((bytes_eq-Decides (map to_ascii_lowercase k.0) (map to_ascii_lowercase text)).0 is)
        ∙ ap (map to_ascii_lowercase) (spelled ∙ ap spelling_of same)
    go false is e ih = ih e

-- ---- what is spelled is found

alike_found : (ks : List Row) (text s : List ℕ) → map to_ascii_lowercase text ≡ map to_ascii_lowercase s
    → lookup ks text ≡ lookup ks s
alike_found [] text s e = refl
alike_found (k ∷ ks) text s e = rw (e, alike_found ks text s e) refl

-- each word is found by its spelling
each_found : (w : Keyword) → lookup reserved_words (spelling_of w) ≡ Some w
unfolding word_rows reserved_words
each_found words.Ld = refl
each_found _ = refl

pub is_found : (text : List ℕ) (w : Keyword) → IsSpelled text w → keyword text ≡ Some w
unfolding keyword IsSpelled
is_found text w h = alike_found reserved_words text (spelling_of w) h ∙ each_found w

pub decided : (text : List ℕ) (o : Option Keyword) → o ≡ keyword text
    → MatchOption o ((w : Keyword) → IsSpelled text w → ⊥) (λ w. IsSpelled text w)
unfolding keyword
decided text (Some w) e = row_found reserved_words text w each_spelled (sym e)
decided text None e = λ w h. let found : keyword text ≡ Some w = is_found text w h in let bad = e ∙ found in cc

-- ---- what a word is

pub keyword_kind : (u : List ℕ) (w : Keyword) → IsSpelled u w → word_kind u ≡ whats.Keyword w
unfolding word_kind
keyword_kind u w h = ap kind_of_word (is_found u w h)

spelled_kind : (u : List ℕ) (o : Option Keyword)
    → MatchOption o ((w : Keyword) → IsSpelled u w → ⊥) (λ w. IsSpelled u w)
    → ((w : Keyword) → IsSpelled u w → ⊥) → kind_of_word o ≡ whats.Name
spelled_kind u None h none = refl
spelled_kind u (Some w) h none = absurd (none w h)

pub name_kind : (u : List ℕ) → ((w : Keyword) → IsSpelled u w → ⊥) → word_kind u ≡ whats.Name
unfolding word_kind
name_kind u none = spelled_kind u (keyword u) (decided u (keyword u) refl) none

pub kind_is : (u : List ℕ) (o : Option Keyword) → MatchOption o ((w : Keyword) → IsSpelled u w → ⊥) (λ w. IsSpelled u w)
    → kind_of_word o ≡ word_kind u
kind_is u None h = sym (name_kind u h)
kind_is u (Some w) h = sym (keyword_kind u w h)

as_word : (u : List ℕ) → IsName u → (o : Option Keyword)
    → MatchOption o ((w : Keyword) → IsSpelled u w → ⊥) (λ w. IsSpelled u w) → Spells (kind_of_word o) u
as_word u name None h = (name, h)
as_word u name (Some w) h = (name, h)

pub word_spelled : (u : List ℕ) → IsName u → Spells (word_kind u) u
unfolding word_kind
word_spelled u name = as_word u name (keyword u) (decided u (keyword u) refl)

within : (o : Option Keyword) → IsWithin (kind_of_word o)
within None = tt
within (Some w) = tt

pub word_within : (u : List ℕ) → IsWithin (word_kind u)
unfolding word_kind
word_within u = within (keyword u)

-- ---- the word at the front

pub front_taken : (bs u rest : List ℕ) → bs ≡ u ++ rest → take (length bs - length rest) bs ≡ u
front_taken bs u rest e =
    let size : length bs - length rest ≡ length u = omega (arith, ap length e, length-append u rest) in
    rw (size, e) (take-append_seam u rest)
