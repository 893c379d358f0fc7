-- A reserved word stands in the row of its first letter, and so it is enough to look there.
use Rattle.std.proofs.Common.{◌≡◌, ℕ, suc, ◌<◌, ◌≤◌, eqb, leb, Bool, true, false, cond, ◌==◌, ◌&&◌, List, [], ◌∷◌, ◌++◌}
use Rattle.std.proofs.Common.{length, map, Option, Some, None, refl, sym, ◌∙◌, arith, eqb-true}
use Rattle.std.proofs.lemmas.Bool.{leb-true, eqb-false}
use Rattle.std.specs.Prelude.{slice_index_or}
use Rattle.std.specs.Char.{to_ascii_lowercase}
use Rattle.std.specs.Str.{str_eq_ignore_ascii_case}
use Rattle.std.specs.Option.{option_or}
use Rattle.std.proofs.lemmas.Slice.Eq.{bytes_eq-Decides}
use Rattle.iltokens.specs.declared.keyword.Keyword.{Keyword}
use Rattle.iltokens.specs.KeywordSteps.{word_rows, all_words, reserved_words, row_by, words_by, lookup, keyword}

abbrev Words : Type 0
Words = List (List ℕ × Keyword)

-- ---- rows by letters

-- whether a word begins with this letter, in either case
abbrev begins : ℕ → List ℕ → Bool
begins letter [] = false
begins letter (c ∷ cs) = to_ascii_lowercase c == letter

abbrev all_begin : ℕ → Words → Bool
all_begin letter [] = true
all_begin letter (k ∷ ks) = begins letter k.0 && all_begin letter ks

-- whether the words of each row begin with its letter, and the letters rise, from this one on
abbrev rows_rise : ℕ → List (ℕ × Words) → Bool
rows_rise least [] = true
rows_rise least (row ∷ rows) = leb least row.0 && (all_begin row.0 row.1 && rows_rise (suc row.0) rows)

are_by_letter : rows_rise 97 word_rows ≡ true
unfolding word_rows
are_by_letter = refl

both : (s t : Bool) → (s && t) ≡ true → (s ≡ true) × (t ≡ true)
both true t e = (refl, e)
both false t e = absurd cc

of_first : (least : ℕ) (row : ℕ × Words) (rows : List (ℕ × Words)) → rows_rise least (row ∷ rows) ≡ true
    → (least ≤ row.0) × (all_begin row.0 row.1 ≡ true) × (rows_rise (suc row.0) rows ≡ true)
of_first least row rows are =
    let here = both (leb least row.0) (all_begin row.0 row.1 && rows_rise (suc row.0) rows) are in
    let later = both (all_begin row.0 row.1) (rows_rise (suc row.0) rows) here.1 in
    (leb-true least row.0 here.0, later.0, later.1)

-- ---- another letter's row has no such word

no_word : (letter : ℕ) (s : List ℕ) (b : ℕ) (bs : List ℕ) → begins letter s ≡ true
    → (to_ascii_lowercase b ≡ letter → ⊥) → str_eq_ignore_ascii_case s (b ∷ bs) ≡ false
no_word letter [] b bs is other = absurd cc
no_word letter (c ∷ cs) b bs is other = go (str_eq_ignore_ascii_case (c ∷ cs) (b ∷ bs)) refl
  where
    go : (t : Bool) → str_eq_ignore_ascii_case (c ∷ cs) (b ∷ bs) ≡ t → t ≡ false
    go false e = refl
    go true e =
        let same : to_ascii_lowercase c ∷ map to_ascii_lowercase cs ≡ to_ascii_lowercase b ∷ map to_ascii_lowercase bs =
        (bytes_eq-Decides (map to_ascii_lowercase (c ∷ cs)) (map to_ascii_lowercase (b ∷ bs))).0 e in
        let first : to_ascii_lowercase c ≡ to_ascii_lowercase b = cc in
        let letters : to_ascii_lowercase c ≡ letter = eqb-true (to_ascii_lowercase c) letter is in
        absurd (other (sym first ∙ letters))

other_row : (letter : ℕ) (ks : Words) (b : ℕ) (bs : List ℕ) → all_begin letter ks ≡ true
    → (to_ascii_lowercase b ≡ letter → ⊥) → lookup ks (b ∷ bs) ≡ None
other_row letter [] b bs all other = refl
other_row letter (k ∷ ks) b bs all other =
    let here = both (begins letter k.0) (all_begin letter ks) all in
    rw (no_word letter k.0 b bs here.0 other, other_row letter ks b bs here.1 other) refl

-- ---- the row of the letter alone

lookup_append : (ks js : Words) (text : List ℕ) → lookup (ks ++ js) text ≡ option_or (lookup ks text) (lookup js text)
lookup_append [] js text = refl
lookup_append (k ∷ ks) js text = go (str_eq_ignore_ascii_case k.0 text) (lookup_append ks js text)
  where
    go : (t : Bool) → lookup (ks ++ js) text ≡ option_or (lookup ks text) (lookup js text)
        → cond t (Some k.1) (lookup (ks ++ js) text) ≡ option_or (cond t (Some k.1) (lookup ks text)) (lookup js text)
    go true e = refl
    go false e = e

none_right : (o : Option Keyword) → option_or o None ≡ o
none_right (Some w) = refl
none_right None = refl

below : (least : ℕ) (rows : List (ℕ × Words)) (b : ℕ) (bs : List ℕ) → rows_rise least rows ≡ true
    → to_ascii_lowercase b < least → lookup (all_words rows) (b ∷ bs) ≡ None
below least [] b bs are lt = refl
below least (row ∷ rows) b bs are lt =
    let here = of_first least row rows are in
    let le = here.0 in
    lookup_append row.1 (all_words rows) (b ∷ bs)
    ∙ rw (other_row row.0 row.1 b bs here.1 (λ e. omega arith), below (suc row.0) rows b bs here.2 (omega arith)) refl

within : (least : ℕ) (rows : List (ℕ × Words)) (b : ℕ) (bs : List ℕ) → rows_rise least rows ≡ true
    → lookup (row_by (to_ascii_lowercase b) rows) (b ∷ bs) ≡ lookup (all_words rows) (b ∷ bs)
within least [] b bs are = refl
within least (row ∷ rows) b bs are =
    go (eqb (to_ascii_lowercase b) row.0) refl (of_first least row rows are)
    (within (suc row.0) rows b bs (of_first least row rows are).2)
    ∙ sym (lookup_append row.1 (all_words rows) (b ∷ bs))
  where
    go : (t : Bool) → eqb (to_ascii_lowercase b) row.0 ≡ t
        → (least ≤ row.0) × (all_begin row.0 row.1 ≡ true) × (rows_rise (suc row.0) rows ≡ true)
        → lookup (row_by (to_ascii_lowercase b) rows) (b ∷ bs) ≡ lookup (all_words rows) (b ∷ bs)
        → lookup (cond t row.1 (row_by (to_ascii_lowercase b) rows)) (b ∷ bs)
        ≡ option_or (lookup row.1 (b ∷ bs)) (lookup (all_words rows) (b ∷ bs))
    go true is here rest =
        let same = eqb-true (to_ascii_lowercase b) row.0 is in
        rw (below (suc row.0) rows b bs here.2 (omega arith)) (sym (none_right (lookup row.1 (b ∷ bs))))
    go false is here rest =
        rw (other_row row.0 row.1 b bs here.1 (eqb-false (to_ascii_lowercase b) row.0 is)) rest

-- ---- the whole table

pub row_is_enough : (text : List ℕ) → 1 ≤ length text
    → lookup (words_by (to_ascii_lowercase (slice_index_or text 0 0))) text ≡ keyword text
unfolding words_by keyword reserved_words
row_is_enough [] some = absurd (omega arith)
row_is_enough (b ∷ bs) some = within 97 word_rows b bs are_by_letter

no_word_here : (letter : ℕ) (ks : Words) → all_begin letter ks ≡ true → lookup ks [] ≡ None
no_word_here letter [] are = refl
no_word_here letter (([], w) ∷ ks) are = absurd cc
no_word_here letter ((c ∷ cs, w) ∷ ks) are =
    no_word_here letter ks (both (begins letter (c ∷ cs)) (all_begin letter ks) are).1

no_byte : (least : ℕ) (rows : List (ℕ × Words)) → rows_rise least rows ≡ true → lookup (all_words rows) [] ≡ None
no_byte least [] are = refl
no_byte least (row ∷ rows) are =
    let here = of_first least row rows are in
    lookup_append row.1 (all_words rows) []
    ∙ rw (no_word_here row.0 row.1 here.1, no_byte (suc row.0) rows here.2) refl

pub no_first : (text : List ℕ) → length text < 1 → None ≡ keyword text
unfolding keyword reserved_words
no_first [] lt = sym (no_byte 97 word_rows are_by_letter)
no_first (b ∷ bs) lt = absurd (omega arith)
