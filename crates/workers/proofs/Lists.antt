-- What is so of each in a list, after one was changed, and by another name.
use Rattle.std.proofs.Common.{◌≡◌, ℕ, zero, suc, ◌+◌, ◌<◌, List, [], ◌∷◌, length, sym, ap, ◌∙◌, subst, arith}
use Rattle.std.proofs.lemmas.Option.{slice_get-get_or}
use Rattle.std.specs.Prelude.{slice_index_or, slice_get, slice_set, Some}
use Rattle.plantturns.specs.Each.{Each}

-- what is read at a place stands there
pub stands : {X : Type 0} → (xs : List X) (place : ℕ) (x : X) → place < length xs → x ≡ slice_index_or xs place x
    → slice_get xs place ≡ Some x
stands xs place x inside read = slice_get-get_or xs place x inside ∙ ap Some (sym read)

set_get : {X : Type 0} (P : ℕ → X → Type 0) (n : ℕ) (xs : List X) (place : ℕ) (y : X) (k : ℕ) (x : X) → Each P n xs
    → P (n + place) y → slice_get (slice_set xs place y) k ≡ Some x → P (n + k) x
set_get P n [] place y k x all new is = absurd (cc)
set_get P n (z ∷ zs) zero y zero x all new is =
    let same : y ≡ x = cc in subst (λ w. P (n + 0) w) same new
set_get P n (z ∷ zs) zero y (suc k) x all new is = all (suc k) x is
set_get P n (z ∷ zs) (suc place) y zero x all new is = all 0 x is
set_get P n (z ∷ zs) (suc place) y (suc k) x all new is =
    let there : n + 1 + k ≡ n + suc k = omega arith in
    let here : n + suc place ≡ n + 1 + place = omega arith in
    subst (λ m. P m x) there
    (set_get P (n + 1) zs place y k x
    (λ j w at. let e : n + suc j ≡ n + 1 + j = omega arith in subst (λ m. P m w) e (all (suc j) w at))
    (subst (λ m. P m y) here new) is)

pub each_set : {X : Type 0} (P : ℕ → X → Type 0) (n : ℕ) (xs : List X) (place : ℕ) (y : X) → Each P n xs
    → P (n + place) y → Each P n (slice_set xs place y)
each_set P n xs place y all new k x is = set_get P n xs place y k x all new is

-- ---- where the first has the number 0

pub each_at : {X : Type 0} (P : ℕ → X → Type 0) (xs : List X) (place : ℕ) (x : X) → Each P 0 xs
    → slice_get xs place ≡ Some x → P place x
each_at P xs place x all there =
    let same : 0 + place ≡ place = omega arith in subst (λ k. P k x) same (all place x there)

pub each_set_at : {X : Type 0} (P : ℕ → X → Type 0) (xs : List X) (place : ℕ) (y : X) → Each P 0 xs → P place y
    → Each P 0 (slice_set xs place y)
each_set_at P xs place y all new =
    let same : place ≡ 0 + place = omega arith in each_set P 0 xs place y all (subst (λ k. P k y) same new)
