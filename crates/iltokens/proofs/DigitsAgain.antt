-- Digits that stand at the front are read, whatever follows them.
use Rattle.std.proofs.Common.{◌≡◌, ℕ, zero, suc, ◌+◌, ◌*◌, ◌<◌, ◌≤◌, Bool, true, false, cond, eqb, List, [], ◌∷◌, ◌++◌}
use Rattle.std.proofs.Common.{length, Option, Some, None, refl, sym, ap, subst, ◌∙◌, append_assoc, arith}
use Rattle.std.proofs.lemmas.List.{append-nil}
use Rattle.iltokens.specs.Digits.{digit_of, is_digit}
use Rattle.iltokens.specs.DigitSteps.{add_digit, next_digit, digits_read, digits_from, digits, plain_from, plain}
use Rattle.iltokens.specs.DigitSteps.{digit_then}
use Rattle.iltokens.specs.Spellings as forms
use Rattle.iltokens.proofs.OverDigits.{Shorter, digit_shorter, goes_on, stops}
use Rattle.iltokens.proofs.DigitLaws.{capped, capped_digit, small}

-- what is read: nothing of what stands after the spelling is left out, and where nothing stands there the value is this
-- one
abbrev pub ReadTo : ℕ → List ℕ → Option (ℕ × List ℕ) → Type 0
ReadTo n rest None = ⊥
ReadTo n rest (Some read) = (length read.1 ≤ length rest) × (rest ≡ [] → read.0 ≡ capped n)

-- ---- digits with underscores

-- digits after a value
pub data More (base : ℕ) : ℕ → List ℕ → ℕ → Type 0 where
  end : (v : ℕ) → More base v [] v
  digit : (v d : ℕ) (w : List ℕ) (n : ℕ) → is_digit base d ≡ true → More base (v * base + digit_of d) w n
      → More base v (d ∷ w) n
  after_mark : (v d : ℕ) (w : List ℕ) (n : ℕ) → is_digit base d ≡ true → More base (v * base + digit_of d) w n
      → More base v (95 ∷ d ∷ w) n

abbrev pub Begun : ℕ → List ℕ → ℕ → Type 0
Begun base u n = (d : ℕ) × (w : List ℕ) × (u ≡ d ∷ w) × (is_digit base d ≡ true) × More base (digit_of d) w n

begun_with : (base : ℕ) (u : List ℕ) (n : ℕ) → forms.Digits base u n → (w : List ℕ) (m : ℕ) → More base n w m
    → Begun base (u ++ w) m
begun_with base _ _ (forms.Digits.one d is) w m more = (d, w, refl, is, more)
begun_with base _ _ (forms.Digits.next u n d h is) w m more =
    let k = begun_with base u n h (d ∷ w) m (More.digit n d w m is more) in
    (k.0, k.1, append_assoc u (d ∷ []) w ∙ k.2, k.3, k.4)
begun_with base _ _ (forms.Digits.marked u n d h is) w m more =
    let k = begun_with base u n h (95 ∷ d ∷ w) m (More.after_mark n d w m is more) in
    (k.0, k.1, append_assoc u (95 ∷ d ∷ []) w ∙ k.2, k.3, k.4)

pub begun : (base : ℕ) (u : List ℕ) (n : ℕ) → forms.Digits base u n → Begun base u n
begun base u n h = subst (λ (z : List ℕ). Begun base z n) (append-nil u) (begun_with base u n h [] n (More.end n))

pub digit_next : (base d : ℕ) (bs : List ℕ) → is_digit base d ≡ true → Some (d, bs) ≡ next_digit base (d ∷ bs)
unfolding next_digit
digit_next base d bs is = rw is refl

no_mark : (base : ℕ) → base ≤ 16 → is_digit base 95 ≡ false
unfolding is_digit
no_mark base le = grind arith

mark_next : (base d : ℕ) (bs : List ℕ) → base ≤ 16 → is_digit base d ≡ true
    → Some (d, bs) ≡ next_digit base (95 ∷ d ∷ bs)
unfolding next_digit
mark_next base d bs le is = let no : is_digit base 95 ≡ false = no_mark base le in rw (no, is) refl

grown : (base v d : ℕ) (bs : List ℕ) → 0 < base
    → digits_from base (add_digit base (capped v) d) bs ≡ digits_from base (capped (v * base + digit_of d)) bs
grown base v d bs lt = ap (λ (c : ℕ). digits_from base c bs) (capped_digit base v d lt)

from_more : (base : ℕ) → 0 < base → base ≤ 16 → (v : ℕ) (w : List ℕ) (n : ℕ) → More base v w n → (rest : List ℕ)
    → digits_from base (capped v) (w ++ rest) ≡ digits_from base (capped n) rest
from_more base lt le _ _ _ (More.end v) rest = refl
from_more base lt le _ _ _ (More.digit v d w n is more) rest =
    sym (goes_on base (capped v) (d ∷ w ++ rest) d (w ++ rest) (digit_next base d (w ++ rest) is))
    ∙ grown base v d (w ++ rest) lt ∙ from_more base lt le (v * base + digit_of d) w n more rest
from_more base lt le _ _ _ (More.after_mark v d w n is more) rest =
    sym (goes_on base (capped v) (95 ∷ d ∷ w ++ rest) d (w ++ rest) (mark_next base d (w ++ rest) le is))
    ∙ grown base v d (w ++ rest) lt ∙ from_more base lt le (v * base + digit_of d) w n more rest

first_digit : (base d : ℕ) (bs : List ℕ) → is_digit base d ≡ true
    → digits base (d ∷ bs) ≡ Some (digits_from base (digit_of d) bs)
first_digit base d bs is = rw is refl

-- digits are read with those that follow them
pub digits_again : (base : ℕ) → 0 < base → base ≤ 16 → (u : List ℕ) (n : ℕ) → forms.Digits base u n → (rest : List ℕ)
    → digits base (u ++ rest) ≡ Some (digits_from base (capped n) rest)
digits_again base lt le u n h rest =
    let k = begun base u n h in
    ap (λ (z : List ℕ). digits base (z ++ rest)) k.2 ∙ first_digit base k.0 (k.1 ++ rest) k.3
    ∙ ap (λ (c : ℕ). Some (digits_from base c (k.1 ++ rest))) (small k.0)
    ∙ ap (λ (r : ℕ × List ℕ). Some r) (from_more base lt le (digit_of k.0) k.1 n k.4 rest)

no_next : (base c : ℕ) (bs : List ℕ) → is_digit base c ≡ false → eqb c 95 ≡ false → next_digit base (c ∷ bs) ≡ None
unfolding next_digit
no_next base c [] other mark = rw other refl
no_next base c (d ∷ bs) other mark = rw (other, mark) refl

-- no digit follows a byte that is neither a digit nor an underscore
pub stops_at : (base value c : ℕ) (bs : List ℕ) → is_digit base c ≡ false → eqb c 95 ≡ false
    → digits_from base value (c ∷ bs) ≡ (value, c ∷ bs)
stops_at base value c bs other mark = stops base value (c ∷ bs) (sym (no_next base c bs other mark))

read_shorter : (k base value : ℕ) (bs : List ℕ) → length (digits_read k base value bs).1 ≤ length bs
unfolding digits_read
read_shorter zero base value bs = omega arith
read_shorter (suc k) base value bs =
    go (next_digit base bs) (digit_shorter base bs) (λ v rest. read_shorter k base v rest)
  where
    go : (o : Option (ℕ × List ℕ)) → Shorter (length bs) o
        → ((v : ℕ) (rest : List ℕ) → length (digits_read k base v rest).1 ≤ length rest)
        → length (digit_then o (value, bs) (λ d rest. digits_read k base (add_digit base value d) rest)).1 ≤ length bs
    go None h ih = omega arith
    go (Some read) h ih = omega (arith, ih (add_digit base value read.0) read.1)

from_nil : (base value : ℕ) → digits_from base value [] ≡ (value, [])
unfolding digits_read
from_nil base value = refl

pub digits_to : (base : ℕ) → 0 < base → base ≤ 16 → (u : List ℕ) (n : ℕ) → forms.Digits base u n → (rest : List ℕ)
    → ReadTo n rest (digits base (u ++ rest))
digits_to base lt le u n h rest =
    rw (digits_again base lt le u n h rest)
    (read_shorter (length rest) base (capped n) rest, λ e. rw (e, from_nil) refl)

-- ---- plain digits

pub data Plain : ℕ → List ℕ → ℕ → Type 0 where
  end : (v : ℕ) → Plain v [] v
  digit : (v d : ℕ) (w : List ℕ) (n : ℕ) → is_digit 10 d ≡ true → Plain (v * 10 + digit_of d) w n → Plain v (d ∷ w) n

abbrev PlainBegun : List ℕ → ℕ → Type 0
PlainBegun u n = (d : ℕ) × (w : List ℕ) × (u ≡ d ∷ w) × (is_digit 10 d ≡ true) × Plain (digit_of d) w n

plain_with : (u : List ℕ) (n : ℕ) → forms.PlainDigits u n → (w : List ℕ) (m : ℕ) → Plain n w m → PlainBegun (u ++ w) m
plain_with _ _ (forms.PlainDigits.one d is) w m more = (d, w, refl, is, more)
plain_with _ _ (forms.PlainDigits.next u n d h is) w m more =
    let k = plain_with u n h (d ∷ w) m (Plain.digit n d w m is more) in
    (k.0, k.1, append_assoc u (d ∷ []) w ∙ k.2, k.3, k.4)

plain_begun : (u : List ℕ) (n : ℕ) → forms.PlainDigits u n → PlainBegun u n
plain_begun u n h = subst (λ (z : List ℕ). PlainBegun z n) (append-nil u) (plain_with u n h [] n (Plain.end n))

plain_on : (value d : ℕ) (bs : List ℕ) → is_digit 10 d ≡ true
    → plain_from value (d ∷ bs) ≡ plain_from (add_digit 10 value d) bs
unfolding plain_from
plain_on value d bs is = rw is refl

plain_more : (v : ℕ) (w : List ℕ) (n : ℕ) → Plain v w n → (rest : List ℕ)
    → plain_from (capped v) (w ++ rest) ≡ plain_from (capped n) rest
plain_more _ _ _ (Plain.end v) rest = refl
plain_more _ _ _ (Plain.digit v d w n is more) rest =
    plain_on (capped v) d (w ++ rest) is ∙ ap (λ (c : ℕ). plain_from c (w ++ rest))
    (capped_digit 10 v d (omega arith)) ∙ plain_more (v * 10 + digit_of d) w n more rest

first_plain : (d : ℕ) (bs : List ℕ) → is_digit 10 d ≡ true → plain (d ∷ bs) ≡ Some (plain_from (digit_of d) bs)
first_plain d bs is = rw is refl

pub plain_again : (u : List ℕ) (n : ℕ) → forms.PlainDigits u n → (rest : List ℕ)
    → plain (u ++ rest) ≡ Some (plain_from (capped n) rest)
plain_again u n h rest =
    let k = plain_begun u n h in
    ap (λ (z : List ℕ). plain (z ++ rest)) k.2 ∙ first_plain k.0 (k.1 ++ rest) k.3
    ∙ ap (λ (c : ℕ). Some (plain_from c (k.1 ++ rest))) (small k.0)
    ∙ ap (λ (r : ℕ × List ℕ). Some r) (plain_more (digit_of k.0) k.1 n k.4 rest)

plain_shorter : (value : ℕ) (bs : List ℕ) → length (plain_from value bs).1 ≤ length bs
unfolding plain_from
plain_shorter value [] = omega arith
plain_shorter value (d ∷ bs) = go (is_digit 10 d) (plain_shorter (add_digit 10 value d) bs)
  where
    go : (t : Bool) → length (plain_from (add_digit 10 value d) bs).1 ≤ length bs
        → length (cond t (plain_from (add_digit 10 value d) bs) (value, d ∷ bs)).1 ≤ length (d ∷ bs)
    go true le = omega arith
    go false le = omega arith

plain_nil : (value : ℕ) → plain_from value [] ≡ (value, [])
unfolding plain_from
plain_nil value = refl

pub plain_to : (u : List ℕ) (n : ℕ) → forms.PlainDigits u n → (rest : List ℕ) → ReadTo n rest (plain (u ++ rest))
plain_to u n h rest = rw (plain_again u n h rest) (plain_shorter (capped n) rest, λ e. rw (e, plain_nil) refl)
