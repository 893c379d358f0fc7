-- Lists without their first items.
use Rattle.std.proofs.Common.{◌≡◌, ℕ, zero, suc, ◌+◌, ◌≤◌, List, [], ◌∷◌, ◌++◌, drop, length, refl, ap, ◌∙◌, arith}

pub drop_front : {X : Type 0} (k : ℕ) (xs ys : List X) → k ≤ length xs → drop k xs ++ ys ≡ drop k (xs ++ ys)
drop_front zero xs ys le = refl
drop_front (suc k) [] ys le = absurd (omega arith)
drop_front (suc k) (x ∷ xs) ys le = drop_front k xs ys (omega arith)

drop_suc : {X : Type 0} (k : ℕ) (xs : List X) → drop 1 (drop k xs) ≡ drop (suc k) xs
drop_suc zero xs = refl
drop_suc (suc k) [] = refl
drop_suc (suc k) (x ∷ xs) = drop_suc k xs

pub drop_one : {X : Type 0} (k : ℕ) (xs : List X) → drop 1 (drop k xs) ≡ drop (k + 1) xs
drop_one k xs = drop_suc k xs ∙ let e : suc k ≡ k + 1 = omega arith in ap (λ n. drop n xs) e
