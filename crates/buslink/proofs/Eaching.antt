-- What is so of each in a list: of the first, of the others, and of one more.
use Rattle.std.proofs.Common.{◌≡◌, ℕ, zero, suc, ◌+◌, ◌<◌, List, [], ◌∷◌, ◌++◌, length, remove, refl, sym}
use Rattle.std.proofs.Common.{subst, arith}
use Rattle.std.specs.Prelude.{slice_index_or, slice_get, Some}
use Rattle.buslink.specs.Each.{Each}

pub each_first : {X : Type 0} (P : ℕ → X → Type 0) (n : ℕ) (xs : List X) (x : X) → 0 < length xs → Each P n xs
    → x ≡ slice_index_or xs 0 x → P n x
each_first P n [] x some all is = absurd (omega arith)
each_first P n (y ∷ ys) x some all is =
    let here : P (n + 0) y = all 0 y refl in
    let same : n + 0 ≡ n = omega arith in
    subst (λ k. P k x) same (subst (λ z. P (n + 0) z) (sym is) here)

pub each_rest : {X : Type 0} (P : ℕ → X → Type 0) (n : ℕ) (xs : List X) → Each P n xs → Each P (n + 1) (remove xs 0)
each_rest P n [] all k x is = absurd (cc)
each_rest P n (y ∷ ys) all k x is =
    let there : n + suc k ≡ n + 1 + k = omega arith in subst (λ m. P m x) there (all (suc k) x is)

-- a thing of a list with one more is one of the list, or that one
push_get : {X : Type 0} (xs : List X) (y : X) (P : ℕ → X → Type 0) (n k : ℕ) (x : X) → Each P n xs
    → P (n + length xs) y → slice_get (xs ++ y ∷ []) k ≡ Some x → P (n + k) x
push_get [] y P n zero x all more is =
    let same : y ≡ x = cc in subst (λ z. P (n + 0) z) same more
push_get [] y P n (suc k) x all more is = absurd (cc)
push_get (z ∷ zs) y P n zero x all more is = all 0 x is
push_get (z ∷ zs) y P n (suc k) x all more is =
    let there : n + 1 + k ≡ n + suc k = omega arith in
    let last : n + length (z ∷ zs) ≡ n + 1 + length zs = omega arith in
    subst (λ m. P m x) there
    (push_get zs y P (n + 1) k x
    (λ j w at. let e : n + suc j ≡ n + 1 + j = omega arith in subst (λ m. P m w) e (all (suc j) w at))
    (subst (λ m. P m y) last more) is)

pub each_push : {X : Type 0} (P : ℕ → X → Type 0) (n : ℕ) (xs : List X) (y : X) → Each P n xs → P (n + length xs) y
    → Each P n (xs ++ y ∷ [])
each_push P n xs y all more k x is = push_get xs y P n k x all more is

pub each_none : {X : Type 0} (P : ℕ → X → Type 0) (n : ℕ) → Each P n []
each_none P n k x is = absurd (cc)
