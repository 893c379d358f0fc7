-- Lists that grow by what each element adds.
use Rattle.std.proofs.Common.{◌≡◌, ◌∙◌, ◌+◌, ◌<◌, ◌≤◌, ◌++◌, ◌∷◌, [], ℕ, List, Result, Ok, Err, OnErr}
use Rattle.std.proofs.Common.{ap, append-nil, append_assoc, arith, flat_map, get_or, length, length-append, map, sym, take}
use Rattle.std.proofs.lemmas.Grind.{flat_map-append}
use Rattle.std.proofs.lemmas.List.{map-append, take-take, take_all, take_at, take_more}

-- one element more has been seen
seen : {X : Type 0} (xs : List X) (i : ℕ) (x : X) → i < length xs → x ≡ get_or xs i x
    → take (i + 1) xs ≡ take i xs ++ x ∷ []
seen xs i x below is = take_more xs i x below ∙ ap (λ y. take i xs ++ y ∷ []) (sym is)

-- more stands last
pub further : {A : Type 0} (old before after more last : List A) → before ≡ old ++ more → after ≡ before ++ last
    → after ≡ old ++ (more ++ last)
further old before after more last p q = q ∙ (ap (λ ys. ys ++ last) p ∙ append_assoc old more last)

-- what an element adds stands last
pub grown_by : {X A : Type 0} (f : X → List A) (old before after : List A) (xs : List X) (i : ℕ) (x : X)
    → i < length xs → x ≡ get_or xs i x → before ≡ old ++ flat_map f (take i xs) → after ≡ before ++ f x
    → after ≡ old ++ flat_map f (take (i + 1) xs)
grown_by f old before after xs i x below is p q =
    let more = ap (flat_map f) (seen xs i x below is)
    ∙ (flat_map-append f (take i xs) (x ∷ []) ∙ ap (λ ys. flat_map f (take i xs) ++ ys) (append-nil (f x))) in
    further old before after (flat_map f (take i xs)) (f x) p q ∙ ap (λ ys. old ++ ys) (sym more)

-- the same where an element adds one
pub grown : {X A : Type 0} (f : X → A) (old before after : List A) (xs : List X) (i : ℕ) (x : X)
    → i < length xs → x ≡ get_or xs i x → before ≡ old ++ map f (take i xs) → after ≡ before ++ f x ∷ []
    → after ≡ old ++ map f (take (i + 1) xs)
grown f old before after xs i x below is p q =
    let more = ap (map f) (seen xs i x below is) ∙ map-append f (take i xs) (x ∷ []) in
    further old before after (map f (take i xs)) (f x ∷ []) p q ∙ ap (λ ys. old ++ ys) (sym more)

-- all have been seen
pub all_seen : {X : Type 0} (xs ys : List X) (i : ℕ) → length xs ≤ i → xs ≡ ys → take i xs ≡ ys
all_seen xs ys i past is = take_all i xs past ∙ is

-- what stood in the list before stands first in it
pub first_kept : {A : Type 0} (old more new : List A) (n : ℕ) → n ≡ length old → new ≡ old ++ more → take n new ≡ old
first_kept old more new n k e = ap (take n) e ∙ take_at old more n (sym k)

-- a list that is as it was
pub all_kept : {A : Type 0} (old new : List A) (n : ℕ) → n ≡ length old → new ≡ old → take n new ≡ old
all_kept old new n k e = take_all n new (omega (arith, k, ap length e)) ∙ e

-- a fact holds also where it need hold only of an error
pub on_err : {T E P : Type 0} (r : Result T E) → P → OnErr r P
on_err (Ok x) p = tt
on_err (Err e) p = p

-- what stands first in a list stands first in each list that begins with it
pub first_of_first : {A : Type 0} (n m : ℕ) (old more mid new : List A) → n ≡ length old → m ≡ length mid
    → mid ≡ old ++ more → take m new ≡ mid → take n new ≡ old
first_of_first n m old more mid new k l e f =
    sym (take-take n m new (omega (arith, ap length e, length-append old more)))
    ∙ (ap (take n) (f ∙ e) ∙ take_at old more n (sym k))
