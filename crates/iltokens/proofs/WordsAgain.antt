-- Words and letters that stand at the front are read, whatever follows them.
use Rattle.std.proofs.Common.{◌≡◌, ℕ, ◌+◌, ◌<◌, ◌≤◌, Bool, true, false, cond, eqb, ltb, List, [], ◌∷◌, ◌++◌, length}
use Rattle.std.proofs.Common.{map, Some, None, ◌||◌, ◌⊎◌, inl, inr, refl, ap, arith, eq-eqb}
use Rattle.std.specs.Char.{to_ascii_lowercase}
use Rattle.std.specs.Int.{is_in_range}
use Rattle.std.proofs.lemmas.Bool.{ltb-true, ltb-false}
use Rattle.iltokens.specs.Letters.{is_letter, is_name_byte}
use Rattle.iltokens.specs.WordSteps.{after_name, after_word}
use Rattle.iltokens.specs.Spellings as forms
use Rattle.iltokens.specs.Spellings.{Reads}

-- ---- words in any letter case

same_lower : (b w : ℕ) → to_ascii_lowercase b ≡ w → eqb (to_ascii_lowercase b) w ≡ true
same_lower b w e = eq-eqb (to_ascii_lowercase b) w e

pub word_again : (word p rest : List ℕ) → Reads word p → after_word word (p ++ rest) ≡ Some rest
word_again [] [] rest h = refl
word_again [] (b ∷ p) rest h = absurd cc
word_again (w ∷ ws) [] rest h = absurd cc
word_again (w ∷ ws) (b ∷ p) rest h =
    let one : to_ascii_lowercase b ≡ w = cc in
    let others : map to_ascii_lowercase p ≡ ws = cc in
    let test = same_lower b w one in
    rw test (word_again ws p rest others)

-- two words that differ in a letter
abbrev pub differ : List ℕ → List ℕ → Bool
differ [] bs = false
differ (a ∷ ws) [] = false
differ (a ∷ ws) (b ∷ bs) = cond (eqb b a) (differ ws bs) true

pub word_other : (word other p rest : List ℕ) → Reads other p → differ word other ≡ true
    → after_word word (p ++ rest) ≡ None
word_other [] other p rest h d = absurd cc
word_other (a ∷ ws) [] p rest h d = absurd cc
word_other (a ∷ ws) (b ∷ bs) [] rest h d = absurd cc
word_other (a ∷ ws) (b ∷ bs) (c ∷ p) rest h d = go (eqb b a) refl d (λ k. word_other ws bs p rest others k)
  where
    one : to_ascii_lowercase c ≡ b
    one = cc

    others : map to_ascii_lowercase p ≡ bs
    others = cc

    go : (t : Bool) → eqb b a ≡ t → cond t (differ ws bs) true ≡ true
        → (differ ws bs ≡ true → after_word ws (p ++ rest) ≡ None)
        → cond (eqb (to_ascii_lowercase c) a) (after_word ws (p ++ rest)) None ≡ None
    go true is d ih = let test : eqb (to_ascii_lowercase c) a ≡ true = rw one is in rw test (ih d)
    go false is d ih = let test : eqb (to_ascii_lowercase c) a ≡ false = rw one is in rw test refl

-- ---- letters

-- a byte that becomes k in lower case is k, or its capital letter
pub lower_is : (b k : ℕ) → to_ascii_lowercase b ≡ k → (b ≡ k) ⊎ ((b + 32 ≡ k) × (65 ≤ b) × (b < 91))
lower_is b k e = go (ltb b 65) refl e
  where
    second : (t : Bool) → ltb b 91 ≡ t → 65 ≤ b → cond t (b + 32) b ≡ k → (b ≡ k) ⊎ ((b + 32 ≡ k) × (65 ≤ b) × (b < 91))
    second true is low e = inr (e, low, ltb-true b 91 is)
    second false is low e = inl e

    go : (t : Bool) → ltb b 65 ≡ t → cond t b (cond (ltb b 91) (b + 32) b) ≡ k
        → (b ≡ k) ⊎ ((b + 32 ≡ k) × (65 ≤ b) × (b < 91))
    go true is e = inl e
    go false is e = second (ltb b 91) refl (ltb-false b 65 is) e

-- a byte that is not a letter in lower case is itself
pub lower_mark : (b k : ℕ) → k < 97 → to_ascii_lowercase b ≡ k → b ≡ k
lower_mark b k lt e = go (lower_is b k e)
  where
    go : (b ≡ k) ⊎ ((b + 32 ≡ k) × (65 ≤ b) × (b < 91)) → b ≡ k
    go (inl same) = same
    go (inr capital) = absurd (let a = capital.0 in let c = capital.1 in omega arith)

-- ---- names

with_digits : (d u l m : Bool) → ((u || l) || m) ≡ true → (((d || u) || l) || m) ≡ true
with_digits true u l m e = refl
with_digits false u l m e = e

pub letter_in_name : (b : ℕ) → is_letter b ≡ true → is_name_byte b ≡ true
letter_in_name b e = with_digits (is_in_range 48 57 b) (is_in_range 65 90 b) (is_in_range 97 122 b) (eqb b 95) e

pub name_again : (w rest : List ℕ) → forms.AreNameBytes w → length (after_name (w ++ rest)) ≤ length rest
name_again [] rest h = after_shorter rest
  where
    after_shorter : (bs : List ℕ) → length (after_name bs) ≤ length bs
    after_shorter [] = omega arith
    after_shorter (b ∷ bs) = go (is_name_byte b) (after_shorter bs)
      where
        go : (t : Bool) → length (after_name bs) ≤ length bs
            → length (cond t (after_name bs) (b ∷ bs)) ≤ length (b ∷ bs)
        go true le = omega arith
        go false le = omega arith
name_again (b ∷ w) rest h = let is = h.0 in rw is (name_again w rest h.1)

-- the hash (35) at the end of a word
pub hash_last : (word p : List ℕ) → Reads (word ++ 35 ∷ []) p → (q : List ℕ) × (p ≡ q ++ 35 ∷ [])
hash_last [] [] h = absurd cc
hash_last [] (b ∷ []) h =
    let e : to_ascii_lowercase b ≡ 35 = cc in
    ([], ap (λ (n : ℕ). n ∷ []) (lower_mark b 35 (omega arith) e))
hash_last [] (b ∷ c ∷ p) h = absurd cc
hash_last (w ∷ word) [] h = absurd cc
hash_last (w ∷ word) (b ∷ p) h =
    let others : Reads (word ++ 35 ∷ []) p = cc in
    let k = hash_last word p others in
    (b ∷ k.0, ap (λ (z : List ℕ). b ∷ z) k.1)

-- name bytes stand before a hash
pub before_hash : (u rest q others : List ℕ) → forms.AreNameBytes u → u ++ rest ≡ q ++ 35 ∷ others
    → length others < length rest
before_hash [] rest q others h e = sizes
  where
    open_size : (q : List ℕ) → length others < length (q ++ 35 ∷ others)
    open_size [] = omega arith
    open_size (b ∷ q) = let lt = open_size q in omega arith

    sizes : length others < length rest
    sizes = rw e (open_size q)
before_hash (b ∷ u) rest [] others h e =
    let x : b ≡ 35 = cc in
    let name = h.0 in
    let bad : is_name_byte 35 ≡ true = rw x at name in
    absurd (let f : false ≡ true = bad in cc)
before_hash (b ∷ u) rest (c ∷ q) others h e =
    let tail : u ++ rest ≡ q ++ 35 ∷ others = cc in
    before_hash u rest q others h.1 tail
