-- Truth values and lists: the first element that passes a test is there, and what a slice leaves.
use Rattle.std.proofs.Common.{◌≡◌, ℕ, zero, suc, ◌<◌, List, [], ◌∷◌, length, Bool, true, false, refl, ap, sym, ◌∙◌}
use Rattle.std.proofs.Common.{arith, ◌||◌, ◌++◌, take, drop}
use Rattle.std.specs.Prelude.{Option, Some, None, option_map, slice_get, if◌then◌else◌}
use Rattle.std.proofs.Math.Seq.{take-append_seam}
use Rattle.ilscope.specs.Tables.{first_at}

pub either : (b : Bool) {P : Type 0} → (b ≡ true → P) → (b ≡ false → P) → P
either true t f = t refl
either false t f = f refl

pub or_true : (b : Bool) → (b || true) ≡ true
or_true true = refl
or_true false = refl

pub or_false : (b : Bool) → (b || false) ≡ b
or_false true = refl
or_false false = refl

pub first_there : {X : Type 0} (test : X → Bool) (xs : List X) (k : ℕ) → first_at test xs ≡ Some k
    → (x : X) × (slice_get xs k ≡ Some x)
first_there test [] k e = absurd cc
first_there {X} test (y ∷ xs) k e = by (test y) (first_at test xs) (first_there test xs) e
  where
    by : (b : Bool) (o : Option ℕ) → ((j : ℕ) → o ≡ Some j → (x : X) × (slice_get xs j ≡ Some x))
        → (if b then Some 0 else option_map suc o) ≡ Some k → (x : X) × (slice_get (y ∷ xs) k ≡ Some x)
    by true o rest e = let h : 0 ≡ k = cc in (y, ap (λ n. slice_get (y ∷ xs) n) (sym h))
    by false None rest e = absurd cc
    by false (Some j) rest e =
        let h : suc j ≡ k = cc in
        let there = rest j refl in
        (there.0, ap (λ n. slice_get (y ∷ xs) n) (sym h) ∙ there.1)

pub below_end : {X : Type 0} (xs : List X) (k : ℕ) (x : X) → slice_get xs k ≡ Some x → k < length xs
below_end [] k x e = absurd cc
below_end (y ∷ xs) zero x e = omega arith
below_end (y ∷ xs) (suc k) x e = omega (arith, below_end xs k x e)

-- so its number is below how many there are
pub first_below : {X : Type 0} (test : X → Bool) (xs : List X) (k : ℕ) → first_at test xs ≡ Some k → k < length xs
first_below test xs k e = let there = first_there test xs k e in below_end xs k there.0 there.1

-- what a slice leaves in the list that it is of
pub written_back : {X : Type 0} (xs ys : List X) (n : ℕ) → n ≡ length xs → length ys ≡ length xs
    → take n (ys ++ drop (length ys) xs) ≡ ys
written_back xs ys n e f =
    let same : n ≡ length ys = e ∙ sym f in
    rw same (take-append_seam ys (drop (length ys) xs))
