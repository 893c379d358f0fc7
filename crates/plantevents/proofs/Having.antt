-- The members of lists.
use Rattle.std.proofs.Common.{◌≡◌, ◌⊎◌, ⊎_elim, inl, inr, ℕ, zero, suc, ◌<◌, List, [], ◌∷◌, ◌++◌, drop, Option, Some}
use Rattle.std.proofs.Common.{None, refl, sym, ap, ◌∙◌, subst, arith, true, false, eqb, ◌≢◌}
use Rattle.std.specs.Prelude.{filter_map}
use Rattle.std.specs.List.{cons_option}
use Rattle.std.proofs.lemmas.Bool.Decides.{eqb_tells}
use Rattle.plantevents.specs.Waiting.{numbers_below}
use Rattle.plantevents.specs.Members.{Has}

pub has_later : {X : Type 0} (y : X) (xs : List X) (x : X) → Has xs x → Has (y ∷ xs) x
has_later y xs x has = (suc has.0, has.1)

-- the first, or one of the others
pub has_cases : {X : Type 0} (y : X) (xs : List X) (x : X) → Has (y ∷ xs) x → (y ≡ x) ⊎ Has xs x
has_cases y xs x (zero, is) = inl (cc)
has_cases y xs x (suc n, is) = inr (n, is)

pub has_none : {X : Type 0} (x : X) → Has [] x → ⊥
has_none x (n, is) = absurd (cc)

pub has_drop : {X : Type 0} (n : ℕ) (xs : List X) (x : X) → Has (drop n xs) x → Has xs x
has_drop zero xs x has = has
has_drop (suc n) [] x has = has
has_drop (suc n) (y ∷ xs) x has = has_later y xs x (has_drop n xs x has)

pub has_append : {X : Type 0} (xs : List X) (y x : X) → Has (xs ++ y ∷ []) x → Has xs x ⊎ (y ≡ x)
has_append [] y x has = ⊎_elim (λ (e : y ≡ x). inr e) (λ (none : Has [] x). inl none) (has_cases y [] x has)
has_append (z ∷ xs) y x has =
    ⊎_elim (λ (e : z ≡ x). inl (zero, ap (λ (a : _). Some a) e))
    (λ (more : Has (xs ++ y ∷ []) x).
    ⊎_elim (λ (k : Has xs x). inl (has_later z xs x k)) (λ (e : y ≡ x). inr e) (has_append xs y x more))
    (has_cases z (xs ++ y ∷ []) x has)

pub appended_has : {X : Type 0} (xs : List X) (y x : X) → Has xs x → Has (xs ++ y ∷ []) x
appended_has [] y x has = absurd (has_none x has)
appended_has (z ∷ xs) y x has =
    ⊎_elim (λ (e : z ≡ x). (zero, ap (λ (a : _). Some a) e)) (λ (more : Has xs x).
    has_later z (xs ++ y ∷ []) x (appended_has xs y x more))
    (has_cases z xs x has)

pub has_last : {X : Type 0} (xs : List X) (y : X) → Has (xs ++ y ∷ []) y
has_last [] y = (zero, refl)
has_last (z ∷ xs) y = has_later z (xs ++ y ∷ []) y (has_last xs y)

-- ---- what a function gives of the items

pub has_given : {X Y : Type 0} (f : X → Option Y) (xs : List X) (y : Y) → Has (filter_map f xs) y
    → (x : X) × Has xs x × (f x ≡ Some y)
has_given f [] y has = absurd (has_none y has)
has_given f (x ∷ xs) y has =
    elim (f x) as (λ (o : Option _). f x ≡ o → Has (cons_option o (filter_map f xs)) y
    → (z : _) × Has (x ∷ xs) z × (f z ≡ Some y)) [
      | None ↦ λ none more. let found = has_given f xs y more in (found.0, has_later x xs found.0 found.1, found.2)
      | Some z ↦ λ some more.
          ⊎_elim (λ (e : z ≡ y). (x, (zero, refl), some ∙ ap (λ (a : _). Some a) e))
          (λ (old : Has (filter_map f xs) y). let found = has_given f xs y old in
          (found.0, has_later x xs found.0 found.1, found.2))
          (has_cases z (filter_map f xs) y more)
    ] refl has

pub given_has : {X Y : Type 0} (f : X → Option Y) (xs : List X) (x : X) (y : Y) → Has xs x → f x ≡ Some y
    → Has (filter_map f xs) y
given_has f [] x y has is = absurd (has_none x has)
given_has f (z ∷ xs) x y has is =
    ⊎_elim
    (λ (e : z ≡ x). let here : f z ≡ Some y = ap f e ∙ is in subst (λ o.
    Has (cons_option o (filter_map f xs)) y) (sym here) (zero, refl))
    (λ (more : Has xs x). let later = given_has f xs x y more is in
    elim (f z) as (λ (o : Option _). Has (cons_option o (filter_map f xs)) y) [
      | None ↦ later
      | Some w ↦ has_later w (filter_map f xs) y later
    ])
    (has_cases z xs x has)

-- ---- numbers

pub below_has : (n m : ℕ) → m < n → Has (numbers_below n) m
below_has zero m lt = absurd (omega arith)
below_has (suc n) m lt =
    ⊎_elim (λ (k : (eqb m n ≡ true) × (m ≡ n)). subst (λ x. Has (numbers_below n
    ++ n ∷ []) x) (sym k.1) (has_last (numbers_below n) n))
    (λ (k : (eqb m n ≡ false) × (m ≢ n)). appended_has (numbers_below n) n m (below_has n m (let ne = k.1 in
    grind arith)))
    (eqb_tells m n)

pub has_below : (n m : ℕ) → Has (numbers_below n) m → m < n
has_below zero m has = absurd (has_none m has)
has_below (suc n) m has =
    ⊎_elim (λ (old : Has (numbers_below n) m). let lt = has_below n m old in omega arith) (λ (e : n ≡ m). omega arith)
    (has_append (numbers_below n) n m has)
