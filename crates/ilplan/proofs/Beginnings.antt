-- Lists whose items take what stands at their place in a second list.
use Rattle.std.proofs.Common.{◌≡◌, ℕ, zero, suc, ◌+◌, ◌<◌, List, [], ◌∷◌, length, take, get_or, set, map}
use Rattle.std.proofs.Common.{Some, refl, sym, ap, ◌∙◌, subst, arith}
use Rattle.std.specs.Prelude.{slice_get}
use Rattle.std.specs.List.{AllZip}
use Rattle.ilplan.specs.Beginnings.{each_with}

module _ {X Y : Type 0} (put : X → Y → X) where
  pub none_with : (xs : List X) → each_with put xs [] ≡ xs
  none_with [] = refl
  none_with (x ∷ xs) = refl

  pub length_with : (xs : List X) (ys : List Y) → length (each_with put xs ys) ≡ length xs
  length_with [] ys = refl
  length_with (x ∷ xs) [] = refl
  length_with (x ∷ xs) (y ∷ ys) = ap suc (length_with xs ys)

  -- what is not reached is as it was
  pub with_past : (xs : List X) (ys : List Y) (i : ℕ) (d : X) → get_or (each_with put xs (take i ys)) i d ≡ get_or xs i d
  with_past [] ys i d = refl
  with_past (x ∷ xs) ys zero d = refl
  with_past (x ∷ xs) [] (suc i) d = refl
  with_past (x ∷ xs) (y ∷ ys) (suc i) d = with_past xs ys i d

  -- one place more
  pub with_more : (xs : List X) (ys : List Y) (i : ℕ) (x : X) (y : Y) → i < length xs → i < length ys
      → x ≡ get_or xs i x → y ≡ get_or ys i y
      → set (each_with put xs (take i ys)) i (put x y) ≡ each_with put xs (take (i + 1) ys)
  with_more [] ys i x y here there is given = absurd (omega arith)
  with_more (x ∷ xs) [] i z y here there is given = absurd (omega arith)
  with_more (x ∷ xs) (y ∷ ys) zero z v here there is given =
      ap (λ (a : X). put a v ∷ xs) is
      ∙ (ap (λ (b : Y). put x b ∷ xs) given ∙ ap (λ (rest : List X). put x y ∷ rest) (sym (none_with xs)))
  with_more (x ∷ xs) (y ∷ ys) (suc i) z v here there is given =
      let more : suc i + 1 ≡ suc (i + 1) = omega arith in
      ap (λ (rest : List X). put x y ∷ rest) (with_more xs ys i z v (omega arith) (omega arith) is given)
      ∙ ap (λ (n : ℕ). each_with put (x ∷ xs) (take n (y ∷ ys))) (sym more)

  -- what they have in common with what they were, and what they took
  pub map_with : {Z : Type 0} (view : X → Z) → ((x : X) (y : Y) → view (put x y) ≡ view x)
      → (xs : List X) (ys : List Y) → map view (each_with put xs ys) ≡ map view xs
  map_with view same [] ys = refl
  map_with view same (x ∷ xs) [] = refl
  map_with {Z} view same (x ∷ xs) (y ∷ ys) =
      ap (λ (z : Z). z ∷ map view (each_with put xs ys)) (same x y)
      ∙ ap (λ (rest : List Z). view x ∷ rest) (map_with view same xs ys)

  pub map_given : (view : X → Y) → ((x : X) (y : Y) → view (put x y) ≡ y)
      → (xs : List X) (ys : List Y) → length ys ≡ length xs → map view (each_with put xs ys) ≡ ys
  map_given view took [] [] long = refl
  map_given view took [] (y ∷ ys) long = absurd (omega arith)
  map_given view took (x ∷ xs) [] long = absurd (omega arith)
  map_given view took (x ∷ xs) (y ∷ ys) long =
      ap (λ (a : Y). a ∷ map view (each_with put xs ys)) (took x y)
      ∙ ap (λ (rest : List Y). y ∷ rest) (map_given view took xs ys (omega arith))

-- where an item takes the place of the one that was there
abbrev pub in_place : {X : Type 0} → X → X → X
in_place old new = new

pub all_in_place : {X : Type 0} (xs ys : List X) → length ys ≡ length xs → each_with in_place xs ys ≡ ys
all_in_place [] [] long = refl
all_in_place [] (y ∷ ys) long = absurd (omega arith)
all_in_place (x ∷ xs) [] long = absurd (omega arith)
all_in_place {X} (x ∷ xs) (y ∷ ys) long = ap (λ (rest : List X). y ∷ rest) (all_in_place xs ys (omega arith))

-- what stands at the same place of both lists
pub zip_at : {X Y : Type 0} (R : X → Y → Type 0) (xs : List X) (ys : List Y) (k : ℕ) (x : X) (y : Y) → AllZip R xs ys
    → slice_get xs k ≡ Some x → slice_get ys k ≡ Some y → R x y
zip_at R [] ys k x y all here there = absurd (cc)
zip_at R (a ∷ xs) [] k x y all here there = absurd all
zip_at {X} {Y} R (a ∷ xs) (b ∷ ys) zero x y all here there =
    let first : a ≡ x = cc in
    let second : b ≡ y = cc in
    subst (λ (z : X). R z y) first (subst (λ (z : Y). R a z) second all.0)
zip_at R (a ∷ xs) (b ∷ ys) (suc k) x y all here there = zip_at R xs ys k x y all.1 here there
