-- Lists by their elements, and after one is written.
use Rattle.std.proofs.Common.{◌≡◌, ℕ, zero, suc, ◌<◌, List, [], ◌∷◌, length, Some, refl, ap, arith}
use Rattle.std.specs.Prelude.{replicate, slice_get, slice_set}

pub get_replicate : {A : Type 0} (n k : ℕ) (x y : A) → slice_get (replicate n x) k ≡ Some y → x ≡ y
get_replicate zero k x y e = absurd (cc)
get_replicate (suc n) zero x y e = cc
get_replicate (suc n) (suc k) x y e = get_replicate n k x y e

pub set_there : {A : Type 0} (xs : List A) (i : ℕ) (v : A) → i < length xs → slice_get (slice_set xs i v) i ≡ Some v
set_there [] i v h = absurd (omega arith)
set_there (x ∷ xs) zero v h = refl
set_there (x ∷ xs) (suc i) v h = set_there xs i v (omega arith)

pub same_set : {A : Type 0} (xs : List A) (i : ℕ) (v w : A) → slice_get (slice_set xs i v) i ≡ Some w → v ≡ w
same_set [] i v w e = absurd (cc)
same_set (x ∷ xs) zero v w e = cc
same_set (x ∷ xs) (suc i) v w e = same_set xs i v w e

pub other_set : {A : Type 0} (xs : List A) (i j : ℕ) (v : A) → (j ≡ i → ⊥)
    → slice_get (slice_set xs i v) j ≡ slice_get xs j
other_set [] i j v n = refl
other_set (x ∷ xs) zero zero v n = absurd (n refl)
other_set (x ∷ xs) zero (suc j) v n = refl
other_set (x ∷ xs) (suc i) zero v n = refl
other_set (x ∷ xs) (suc i) (suc j) v n = other_set xs i j v (λ e. n (ap suc e))
