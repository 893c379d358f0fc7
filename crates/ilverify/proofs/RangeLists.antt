-- Lists: what stands at a place after others, two lists of which a relation holds place by place, and what is made of
-- each element in turn.
use Rattle.std.proofs.Common.{◌≡◌, ℕ, ◌+◌, ◌<◌, ◌≤◌, List, [], ◌∷◌, ◌++◌, length, refl, sym, ap, ◌∙◌, subst, arith}
use Rattle.std.proofs.Common.{zero, suc, Some, get_or, map, take}
use Rattle.std.specs.Prelude.{slice_get, slice_set}
use Rattle.std.specs.List.{AllZip}
use Rattle.std.proofs.lemmas.List.{map-append, take_all, take_more}

pub get_left : {A : Type 0} (xs ys : List A) (n : ℕ) → n < length xs → slice_get (xs ++ ys) n ≡ slice_get xs n
get_left [] ys n h = absurd (omega arith)
get_left (x ∷ xs) ys zero h = refl
get_left (x ∷ xs) ys (suc n) h = get_left xs ys n (omega arith)

pub get_right : {A : Type 0} (xs ys : List A) (m n : ℕ) → m ≡ length xs + n → slice_get (xs ++ ys) m ≡ slice_get ys n
get_right [] ys m n e = let f : m ≡ n = omega arith in ap (slice_get ys) f
get_right (x ∷ xs) ys zero n e = absurd (omega arith)
get_right (x ∷ xs) ys (suc m) n e = get_right xs ys m n (omega arith)

pub set_left : {A : Type 0} (xs ys : List A) (n : ℕ) (a : A) → n < length xs
    → slice_set (xs ++ ys) n a ≡ slice_set xs n a ++ ys
set_left [] ys n a h = absurd (omega arith)
set_left (x ∷ xs) ys zero a h = refl
set_left (x ∷ xs) ys (suc n) a h = ap (λ zs. x ∷ zs) (set_left xs ys n a (omega arith))

pub set_right : {A : Type 0} (xs ys : List A) (m n : ℕ) (a : A) → m ≡ length xs + n
    → slice_set (xs ++ ys) m a ≡ xs ++ slice_set ys n a
set_right [] ys m n a e = let f : m ≡ n = omega arith in ap (λ k. slice_set ys k a) f
set_right (x ∷ xs) ys zero n a e = absurd (omega arith)
set_right (x ∷ xs) ys (suc m) n a e = ap (λ zs. x ∷ zs) (set_right xs ys m n a (omega arith))

pub length_set : {A : Type 0} (xs : List A) (k : ℕ) (a : A) → length (slice_set xs k a) ≡ length xs
length_set [] k a = refl
length_set (x ∷ xs) zero a = refl
length_set (x ∷ xs) (suc k) a = let e = length_set xs k a in omega arith

pub zip_split : {A : Type 0} (R : A → A → Type 0) (xs ys us vs : List A) → length xs ≡ length ys
    → AllZip R (xs ++ us) (ys ++ vs) → AllZip R xs ys × AllZip R us vs
zip_split R [] [] us vs e h = (tt, h)
zip_split R [] (y ∷ ys) us vs e h = absurd (omega arith)
zip_split R (x ∷ xs) [] us vs e h = absurd (omega arith)
zip_split R (x ∷ xs) (y ∷ ys) us vs e h =
    let i = zip_split R xs ys us vs (omega arith) h.1 in
    ((h.0, i.0), i.1)

pub zip_at : {A : Type 0} (R : A → A → Type 0) (xs ys : List A) (k : ℕ) (x y : A) → AllZip R xs ys
    → slice_get xs k ≡ Some x → slice_get ys k ≡ Some y → R x y
zip_at R [] ys k x y h p q = absurd (cc)
zip_at R (a ∷ xs) [] k x y h p q = absurd h
zip_at R (a ∷ xs) (b ∷ ys) zero x y h p q =
    let f : a ≡ x = cc in
    let g : b ≡ y = cc in
    subst (λ z. R z y) f (subst (R a) g h.0)
zip_at R (a ∷ xs) (b ∷ ys) (suc k) x y h p q = zip_at R xs ys k x y h.1 p q

pub zip_through : {A B : Type 0} (R : A → B → Type 0) (S : B → B → Type 0)
    → ((x : A) (y z : B) → R x y → S y z → R x z) → (xs : List A) (ys zs : List B) → AllZip R xs ys → AllZip S ys zs
    → AllZip R xs zs
zip_through R S each [] [] [] h g = tt
zip_through R S each [] [] (z ∷ zs) h g = absurd g
zip_through R S each [] (y ∷ ys) zs h g = absurd h
zip_through R S each (x ∷ xs) [] zs h g = absurd h
zip_through R S each (x ∷ xs) (y ∷ ys) [] h g = absurd g
zip_through R S each (x ∷ xs) (y ∷ ys) (z ∷ zs) h g =
    (each x y z h.0 g.0, zip_through R S each xs ys zs h.1 g.1)

-- one element more
pub mapped_more : {A B : Type 0} (f : A → B) (xs : List A) (i : ℕ) (x : A) (made more : List B) (y : B) → i < length xs
    → made ≡ map f (take i xs) → more ≡ made ++ y ∷ [] → y ≡ f x → x ≡ get_or xs i x → more ≡ map f (take (i + 1) xs)
mapped_more {A} {B} f xs i x made more y below so_far push is there =
    push ∙ (ap (λ (ys : List B). ys ++ y ∷ []) so_far
    ∙ (ap (λ (z : B). map f (take i xs) ++ z ∷ []) (is ∙ ap f there)
    ∙ (sym (map-append f (take i xs) (get_or xs i x ∷ []))
    ∙ ap (λ (ys : List A). map f ys) (sym (take_more xs i x below)))))

-- all of them
pub mapped_all : {A B : Type 0} (f : A → B) (xs : List A) (n : ℕ) (made : List B) → made ≡ map f (take n xs)
    → length xs ≤ n → made ≡ map f xs
mapped_all {A} f xs n made so_far past = so_far ∙ ap (λ (ys : List A). map f ys) (take_all n xs past)
