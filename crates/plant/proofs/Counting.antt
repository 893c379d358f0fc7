-- How many places are kept after an event.
use Rattle.std.proofs.Common.{◌≡◌, ◌≢◌, ℕ, zero, suc, ◌+◌, ◌<◌, ◌≤◌, Bool, true, false, List, [], ◌∷◌, length}
use Rattle.std.proofs.Common.{refl, sym, ap, ◌∙◌, subst, arith, ⊎_elim, eqb}
use Rattle.std.specs.Prelude.{if◌then◌else◌, slice_set, slice_index_or}
use Rattle.std.proofs.lemmas.Bool.Decides.{eqb_tells}
use Rattle.plant.specs.Shown.{count_below, count_true, sum_below}

abbrev one_if : Bool → ℕ
one_if b = if b then 1 else 0

pub one_most : (b : Bool) → one_if b ≤ 1
one_most true = omega arith
one_most false = omega arith

-- tests that agree below n count the same
pub count_same : (f g : ℕ → Bool) (n : ℕ) → ((i : ℕ) → i < n → g i ≡ f i) → count_below g n ≡ count_below f n
count_same f g zero same = refl
count_same f g (suc n) same =
    let rest = count_same f g n (λ i lt. same i (omega arith)) in
    let here : one_if (g n) ≡ one_if (f n) = ap one_if (same n (omega arith)) in omega arith

-- one number passes no more
pub count_less : (f g : ℕ → Bool) (n c : ℕ) → c < n → f c ≡ true → g c ≡ false
    → ((i : ℕ) → i ≢ c → g i ≡ f i) → count_below g n + 1 ≡ count_below f n
count_less f g zero c lt was is other = absurd (omega arith)
count_less f g (suc n) c lt was is other =
    ⊎_elim
    (λ (k : (eqb n c ≡ true) × (n ≡ c)).
    let rest = count_same f g n (λ i below. other i (omega (arith, k.1))) in
    let before : one_if (f n) ≡ 1 = ap (λ m. one_if (f m)) k.1 ∙ ap one_if was in
    let after : one_if (g n) ≡ 0 = ap (λ m. one_if (g m)) k.1 ∙ ap one_if is in omega arith)
    (λ (k : (eqb n c ≡ false) × (n ≢ c)).
    let rest = count_less f g n c (omega (arith, k.1)) was is other in
    let here : one_if (g n) ≡ one_if (f n) = ap one_if (other n k.1) in omega arith)
    (eqb_tells n c)

-- a place of a list is set
pub count_after_set : (bs : List Bool) (i : ℕ) (b : Bool) → i < length bs
    → count_true (slice_set bs i b) + one_if (slice_index_or bs i false) ≡ count_true bs + one_if b
count_after_set [] i b lt = absurd (omega arith)
count_after_set (x ∷ bs) zero b lt = omega arith
count_after_set (x ∷ bs) (suc i) b lt = let rest = count_after_set bs i b (omega arith) in omega arith

-- one number alone may pass no more
pub count_near : (f g : ℕ → Bool) (n c : ℕ) → ((i : ℕ) → i ≢ c → g i ≡ f i) → count_below f n ≤ count_below g n + 1
count_near f g zero c other = omega arith
count_near f g (suc n) c other =
    ⊎_elim
    (λ (k : (eqb n c ≡ true) × (n ≡ c)).
    let rest = count_same f g n (λ i lt. other i (omega (arith, k.1))) in
    let most = one_most (f n) in omega arith)
    (λ (k : (eqb n c ≡ false) × (n ≢ c)).
    let rest = count_near f g n c other in
    let here : one_if (g n) ≡ one_if (f n) = ap one_if (other n k.1) in omega arith)
    (eqb_tells n c)

-- ---- sums

-- numbers that agree below n have the same sum
pub sum_same : (f g : ℕ → ℕ) (n : ℕ) → ((i : ℕ) → i < n → g i ≡ f i) → sum_below g n ≡ sum_below f n
sum_same f g zero same = refl
sum_same f g (suc n) same =
    let rest = sum_same f g n (λ i lt. same i (omega arith)) in
    let here = same n (omega arith) in omega arith

-- one number is more by one
pub sum_more : (f g : ℕ → ℕ) (n c : ℕ) → c < n → g c ≡ f c + 1 → ((i : ℕ) → i ≢ c → g i ≡ f i)
    → sum_below g n ≡ sum_below f n + 1
sum_more f g zero c lt more other = absurd (omega arith)
sum_more f g (suc n) c lt more other =
    ⊎_elim
    (λ (k : (eqb n c ≡ true) × (n ≡ c)).
    let rest = sum_same f g n (λ i below. other i (omega (arith, k.1))) in
    let here : g n ≡ f n + 1 = ap g k.1 ∙ (more ∙ ap (λ m. f m + 1) (sym k.1)) in omega arith)
    (λ (k : (eqb n c ≡ false) × (n ≢ c)).
    let rest = sum_more f g n c (omega (arith, k.1)) more other in let here = other n k.1 in omega arith)
    (eqb_tells n c)

-- one number alone may be less, by one
pub sum_near : (f g : ℕ → ℕ) (n c : ℕ) → f c ≤ g c + 1 → ((i : ℕ) → i ≢ c → g i ≡ f i)
    → sum_below f n ≤ sum_below g n + 1
sum_near f g zero c near other = omega arith
sum_near f g (suc n) c near other =
    ⊎_elim
    (λ (k : (eqb n c ≡ true) × (n ≡ c)).
    let rest = sum_same f g n (λ i lt. other i (omega (arith, k.1))) in
    let here : f n ≤ g n + 1 = subst (λ (m : ℕ). f m ≤ g m + 1) (sym k.1) near in omega arith)
    (λ (k : (eqb n c ≡ false) × (n ≢ c)).
    let rest = sum_near f g n c near other in let here = other n k.1 in omega arith)
    (eqb_tells n c)

-- ---- lists

-- a place of a list is not set any more, or is set
pub count_unset : (bs : List Bool) (i : ℕ) → count_true bs ≤ count_true (slice_set bs i false) + 1
count_unset [] i = omega arith
count_unset (x ∷ bs) zero = let most = one_most x in omega arith
count_unset (x ∷ bs) (suc i) = let rest = count_unset bs i in omega arith

pub count_set : (bs : List Bool) (i : ℕ) → count_true bs ≤ count_true (slice_set bs i true)
count_set [] i = omega arith
count_set (x ∷ bs) zero = let most = one_most x in omega arith
count_set (x ∷ bs) (suc i) = let rest = count_set bs i in omega arith
