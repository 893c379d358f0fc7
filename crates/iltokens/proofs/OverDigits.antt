-- Going over digits.
use Rattle.std.proofs.Common.{◌≡◌, ℕ, zero, suc, ◌<◌, ◌≤◌, Bool, true, false, cond, eqb, List, [], ◌∷◌, length, Option}
use Rattle.std.proofs.Common.{Some, None, ◌&&◌, refl, sym, subst, arith}
use Rattle.iltokens.specs.Digits.{is_digit}
use Rattle.iltokens.specs.DigitSteps.{add_digit, marked, next_digit, digit_then, digits_read, digits_from}

abbrev pub Shorter : ℕ → Option (ℕ × List ℕ) → Type 0
Shorter n None = Unit {0}
Shorter n (Some read) = length read.1 < n

marked_shorter : (base d : ℕ) (bs : List ℕ) → Shorter (suc (length bs)) (marked base d bs)
marked_shorter base d [] = tt
marked_shorter base d (e ∷ bs) = go ((eqb d 95) && is_digit base e)
  where
    go : (t : Bool) → Shorter (suc (suc (length bs))) (cond t (Some (e, bs)) None)
    go true = omega arith
    go false = tt

pub digit_shorter : (base : ℕ) (bs : List ℕ) → Shorter (length bs) (next_digit base bs)
unfolding next_digit
digit_shorter base [] = tt
digit_shorter base (d ∷ bs) = go (is_digit base d)
  where
    go : (t : Bool) → Shorter (suc (length bs)) (cond t (Some (d, bs)) (marked base d bs))
    go true = omega arith
    go false = marked_shorter base d bs

some_shorter : (base : ℕ) (bs : List ℕ) (read : ℕ × List ℕ) → Some read ≡ next_digit base bs → length read.1 < length bs
some_shorter base bs read e = subst (λ (o : Option (ℕ × List ℕ)). Shorter (length bs) o) (sym e) (digit_shorter base bs)

pub same_fuel : (n m base value : ℕ) (bs : List ℕ) → length bs ≤ n → length bs ≤ m
    → digits_read n base value bs ≡ digits_read m base value bs
unfolding digits_read next_digit
same_fuel zero zero base value bs ln lm = refl
same_fuel zero (suc m) base value [] ln lm = refl
same_fuel zero (suc m) base value (b ∷ bs) ln lm = absurd (omega arith)
same_fuel (suc n) zero base value [] ln lm = refl
same_fuel (suc n) zero base value (b ∷ bs) ln lm = absurd (omega arith)
same_fuel (suc n) (suc m) base value bs ln lm =
    go (λ v rest a b. same_fuel n m base v rest a b) (next_digit base bs) refl
  where
    go : ((v : ℕ) (rest : List ℕ) → length rest ≤ n → length rest ≤ m → digits_read n base v rest ≡ digits_read m base v
        rest) → (o : Option (ℕ × List ℕ)) → o ≡ next_digit base bs
        → digit_then o (value, bs) (λ d rest. digits_read n base (add_digit base value d) rest)
        ≡ digit_then o (value, bs) (λ d rest. digits_read m base (add_digit base value d) rest)
    go ih None e = refl
    go ih (Some read) e =
        let lt = some_shorter base bs read e in
        ih (add_digit base value read.0) read.1 (omega arith) (omega arith)

goes_from : (n base value : ℕ) (bs : List ℕ) (read : ℕ × List ℕ) → length bs ≤ n → Some read ≡ next_digit base bs
    → digits_read n base value bs ≡ digits_from base (add_digit base value read.0) read.1
unfolding digits_read
goes_from zero base value bs read le e = absurd (let lt = some_shorter base bs read e in omega arith)
goes_from (suc n) base value bs read le e =
    let lt = some_shorter base bs read e in
    rw (sym e) (same_fuel n (length read.1) base (add_digit base value read.0) read.1 (omega arith) (omega arith))

-- one more digit
pub goes_on : (base value : ℕ) (bs : List ℕ) (d : ℕ) (rest : List ℕ) → Some (d, rest) ≡ next_digit base bs
    → digits_from base (add_digit base value d) rest ≡ digits_from base value bs
goes_on base value bs d rest e = sym (goes_from (length bs) base value bs (d, rest) (omega arith) e)

stops_from : (n base value : ℕ) (bs : List ℕ) → None ≡ next_digit base bs → digits_read n base value bs ≡ (value, bs)
unfolding digits_read
stops_from zero base value bs e = refl
stops_from (suc n) base value bs e = rw (sym e) refl

-- no more digits
pub stops : (base value : ℕ) (bs : List ℕ) → None ≡ next_digit base bs → digits_from base value bs ≡ (value, bs)
stops base value bs e = stops_from (length bs) base value bs e
