-- Lists of which each element is changed alike.
use Rattle.std.proofs.Common.{◌≡◌, ℕ, zero, suc, ◌+◌, ◌<◌, List, [], ◌∷◌, ◌++◌, length, take, drop, map, get_or, set}
use Rattle.std.proofs.Common.{refl, ap, arith, add-one}
use Rattle.std.specs.Prelude.{Option, None}
use Rattle.std.specs.List.{filter_map, cons_option}

-- one element more is changed
changed_more : {X : Type 0} (f : X → X) (xs : List X) (i : ℕ) (d : X) → i < length xs →
    take (suc i) (set xs i (f (get_or xs i d))) ++ map f (drop (suc i) (set xs i (f (get_or xs i d))))
    ≡ take i xs ++ map f (drop i xs)
changed_more f [] i d h = absurd (omega arith)
changed_more f (x ∷ xs) zero d h = refl
changed_more f (x ∷ xs) (suc i) d h =
    let inside : i < length xs = omega arith in
    ap (λ (ys : List _). x ∷ ys) (changed_more f xs i d inside)

pub one_more_changed : {X : Type 0} (f : X → X) (xs : List X) (i : ℕ) (d y : X) → i < length xs
    → y ≡ f (get_or xs i d) →
    take (i + 1) (set xs i y) ++ map f (drop (i + 1) (set xs i y)) ≡ take i xs ++ map f (drop i xs)
one_more_changed f xs i d y h e = rw (e, add-one) (changed_more f xs i d h)

pub map_through : {X Y Z : Type 0} (f : Y → Z) (g : X → Y) (h : X → Z) (xs : List X) → ((x : X) → f (g x) ≡ h x)
    → map f (map g xs) ≡ map h xs
map_through f g h [] e = refl
map_through f g h (x ∷ xs) e = rw (e x, map_through f g h xs e) refl

pub map_same : {X Y : Type 0} (f g : X → Y) (xs : List X) → ((x : X) → f x ≡ g x) → map f xs ≡ map g xs
map_same f g [] e = refl
map_same f g (x ∷ xs) e = rw (e x, map_same f g xs e) refl

pub filter_map_through : {X Y Z : Type 0} (f : Y → Option Z) (g : X → Y) (xs : List X)
    → filter_map f (map g xs) ≡ filter_map (λ x. f (g x)) xs
filter_map_through f g [] = refl
filter_map_through f g (x ∷ xs) = ap (λ (ys : List _). cons_option (f (g x)) ys) (filter_map_through f g xs)

pub filter_map_none : {X Y : Type 0} (xs : List X) → filter_map {Y = Y} (λ (x : X). None) xs ≡ []
filter_map_none [] = refl
filter_map_none (x ∷ xs) = filter_map_none xs
