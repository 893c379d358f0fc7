-- What is read as digits is digits, of that value.
use Rattle.std.proofs.Common.{◌≡◌, ℕ, zero, suc, ◌+◌, ◌-◌, ◌*◌, ◌^◌, ◌<◌, ◌≤◌, min, Bool, true, false, cond, eqb, leb}
use Rattle.std.proofs.Common.{List, [], ◌∷◌, ◌++◌, length, Option, Some, None, ◌&&◌, ◌⊎◌, inl, inr, refl, sym, ap}
use Rattle.std.proofs.Common.{subst, ◌∙◌, append_assoc, arith, eqb-true}
use Rattle.std.proofs.lemmas.List.{append-nil}
use Rattle.std.proofs.Math.Nat.{le-mul_of_pos_right}
use Rattle.std.proofs.lemmas.Bool.{leb-true, leb-false}
use Rattle.iltokens.specs.Digits.{digit_of, is_digit}
use Rattle.iltokens.specs.DigitSteps.{add_digit, marked, next_digit, digit_then, digits_read, digits_from, digits}
use Rattle.iltokens.specs.DigitSteps.{plain_from, plain}
use Rattle.iltokens.specs.Spellings as forms
use Rattle.iltokens.proofs.Comments.{both}

-- a value that is kept at 64 bits
abbrev pub capped : ℕ → ℕ
capped n = min n (2 ^ 64 - 1)

grown : (base value d : ℕ) → 0 < base → value ≤ value * base
    → min (min value (2 ^ 64 - 1) * base + d) (2 ^ 64 - 1) ≡ min (value * base + d) (2 ^ 64 - 1)
grown base value d lt le = go (leb value (2 ^ 64 - 1)) refl
  where
    go : (t : Bool) → leb value (2 ^ 64 - 1) ≡ t
        → min (min value (2 ^ 64 - 1) * base + d) (2 ^ 64 - 1) ≡ min (value * base + d) (2 ^ 64 - 1)
    go true is =
        let low = leb-true value (2 ^ 64 - 1) is in
        let e : min value (2 ^ 64 - 1) ≡ value = omega arith in
        rw e refl
    go false is =
        let high = leb-false value (2 ^ 64 - 1) is in
        let e : min value (2 ^ 64 - 1) ≡ 2 ^ 64 - 1 = omega arith in
        rw e (omega arith)

pub capped_digit : (base value b : ℕ) → 0 < base → add_digit base (capped value) b ≡ capped (value * base + digit_of b)
unfolding add_digit
capped_digit base value b lt = grown base value (digit_of b) lt (le-mul_of_pos_right value lt)

-- what was read at the front of the bytes: P of it and of its value, before it was kept at 64 bits
abbrev pub Found : (List ℕ → ℕ → Type 0) → List ℕ → Option (ℕ × List ℕ) → Type 0
Found P bs None = Unit {0}
Found P bs (Some read) = (v : List ℕ) × (value : ℕ) × (bs ≡ v ++ read.1) × P v value × (read.0 ≡ capped value)

abbrev IsNext : ℕ → List ℕ → Option (ℕ × List ℕ) → Type 0
IsNext base bs None = Unit {0}
IsNext base bs (Some read) = (is_digit base read.0 ≡ true) × ((bs ≡ read.0 ∷ read.1) ⊎ (bs ≡ 95 ∷ read.0 ∷ read.1))

is_next : (base : ℕ) (bs : List ℕ) → IsNext base bs (next_digit base bs)
unfolding next_digit
is_next base [] = tt
is_next base (d ∷ bs) = go (is_digit base d) refl
  where
    after : (bs : List ℕ) → IsNext base (d ∷ bs) (marked base d bs)
    after [] = tt
    after (e ∷ bs) = try ((eqb d 95) && is_digit base e) refl
      where
        try : (t : Bool) → ((eqb d 95) && is_digit base e) ≡ t → IsNext base (d ∷ e ∷ bs) (cond t (Some (e, bs)) None)
        try true is =
            let p = both (eqb d 95) (is_digit base e) is in
            let x = eqb-true d 95 p.0 in
            (p.1, inr (rw x refl))
        try false is = tt

    go : (t : Bool) → is_digit base d ≡ t → IsNext base (d ∷ bs) (cond t (Some (d, bs)) (marked base d bs))
    go true is = (is, inl refl)
    go false is = after bs

-- more digits after those of u
abbrev More : (List ℕ → ℕ → Type 0) → List ℕ → List ℕ → ℕ × List ℕ → Type 0
More P u bs r = (v : List ℕ) × (value : ℕ) × (bs ≡ v ++ r.1) × P (u ++ v) value × (r.0 ≡ capped value)

no_more : (P : List ℕ → ℕ → Type 0) (u bs : List ℕ) (value cv : ℕ) → P u value → cv ≡ capped value
    → More P u bs (cv, bs)
no_more P u bs value cv h e = ([], value, refl, subst (λ (z : List ℕ). P z value) (sym (append-nil u)) h, e)

step : (P : List ℕ → ℕ → Type 0) (u w bs rest : List ℕ) (r : ℕ × List ℕ) → bs ≡ w ++ rest → More P (u ++ w) rest r
    → More P u bs r
step P u w bs rest r e h = (
  w ++ h.0,
  h.1,
  e ∙ ap (λ (z : List ℕ). w ++ z) h.2 ∙ sym (append_assoc w h.0 r.1),
  subst (λ (z : List ℕ). P z h.1)
      (append_assoc u w h.0) h.3,
  h.4,
)

digits_more : (base : ℕ) → 0 < base → (k cv : ℕ) (bs u : List ℕ) (value : ℕ) → forms.Digits base u value
    → cv ≡ capped value
    → More (forms.Digits base) u bs (digits_read k base cv bs)
unfolding digits_read
digits_more base lt zero cv bs u value h e = no_more (forms.Digits base) u bs value cv h e
digits_more base lt (suc k) cv bs u value h e = go (next_digit base bs) (is_next base bs) (digits_more base lt k)
  where
    grows : (d : ℕ) → add_digit base cv d ≡ capped (value * base + digit_of d)
    grows d = rw e (capped_digit base value d lt)

    go : (o : Option (ℕ × List ℕ)) → IsNext base bs o
        → ((c : ℕ) (cs w : List ℕ) (n : ℕ) → forms.Digits base w n → c ≡ capped n → More (forms.Digits base) w cs
        (digits_read k base c cs))
        → More (forms.Digits base) u bs
        (digit_then o (cv, bs) (λ d rest. digits_read k base (add_digit base cv d) rest))
    go None n ih = no_more (forms.Digits base) u bs value cv h e
    go (Some read) (is, inl p) ih =
        step (forms.Digits base) u (read.0 ∷ []) bs read.1 _ p
        (ih (add_digit base cv read.0) read.1 (u ++ read.0 ∷ []) (value * base + digit_of read.0)
        (forms.Digits.next u value read.0 h is) (grows read.0))
    go (Some read) (is, inr p) ih =
        step (forms.Digits base) u (95 ∷ read.0 ∷ []) bs read.1 _ p
        (ih (add_digit base cv read.0) read.1 (u ++ 95 ∷ read.0 ∷ []) (value * base + digit_of read.0)
        (forms.Digits.marked u value read.0 h is) (grows read.0))

pub small : (d : ℕ) → digit_of d ≡ capped (digit_of d)
small d = let low : digit_of d ≤ 16 = grind arith in omega arith

pub digits_found : (base : ℕ) → 0 < base → (bs : List ℕ) → Found (forms.Digits base) bs (digits base bs)
digits_found base lt [] = tt
digits_found base lt (d ∷ bs) = go (is_digit base d) refl
  where
    go : (t : Bool) → is_digit base d ≡ t
        → Found (forms.Digits base) (d ∷ bs) (cond t (Some (digits_from base (digit_of d) bs)) None)
    go true is = step (forms.Digits base) [] (d ∷ []) (d ∷ bs) bs (digits_from base (digit_of d) bs) refl
        (digits_more base lt (length bs) (digit_of d) bs (d ∷ []) (digit_of d) (forms.Digits.one d is) (small d))
    go false is = tt

plain_more : (cv : ℕ) (bs u : List ℕ) (value : ℕ) → forms.PlainDigits u value → cv ≡ capped value
    → More forms.PlainDigits u bs (plain_from cv bs)
unfolding plain_from
plain_more cv [] u value h e = no_more forms.PlainDigits u [] value cv h e
plain_more cv (d ∷ bs) u value h e =
    go (is_digit 10 d) refl (plain_more (add_digit 10 cv d) bs (u ++ d ∷ []) (value * 10 + digit_of d))
  where
    go : (t : Bool) → is_digit 10 d
        ≡ t → (forms.PlainDigits (u ++ d ∷ []) (value * 10 + digit_of d) → add_digit 10 cv d ≡ capped
        (value * 10 + digit_of d) → More forms.PlainDigits (u ++ d ∷ []) bs (plain_from (add_digit 10 cv d) bs))
        → More forms.PlainDigits u (d ∷ bs) (cond t (plain_from (add_digit 10 cv d) bs) (cv, d ∷ bs))
    go true is ih =
        step forms.PlainDigits u (d ∷ []) (d ∷ bs) bs _ refl
        (ih (forms.PlainDigits.next u value d h is) (rw e (capped_digit 10 value d (omega arith))))
    go false is ih = no_more forms.PlainDigits u (d ∷ bs) value cv h e

pub plain_found : (bs : List ℕ) → Found forms.PlainDigits bs (plain bs)
plain_found [] = tt
plain_found (d ∷ bs) = go (is_digit 10 d) refl
  where
    go : (t : Bool) → is_digit 10 d ≡ t
        → Found forms.PlainDigits (d ∷ bs) (cond t (Some (plain_from (digit_of d) bs)) None)
    go true is =
        step forms.PlainDigits [] (d ∷ []) (d ∷ bs) bs (plain_from (digit_of d) bs) refl
        (plain_more (digit_of d) bs (d ∷ []) (digit_of d) (forms.PlainDigits.one d is) (small d))
    go false is = tt
