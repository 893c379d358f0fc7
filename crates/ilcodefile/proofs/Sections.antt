-- Tables of a file that are read item by item: what was read so far is what the table has so far, whatever table it is
-- that is spelled so.
use Rattle.std.proofs.Common.{◌≡◌, ℕ, zero, suc, ◌+◌, ◌<◌, List, [], ◌∷◌, ◌++◌, take, drop, length, refl, sym, ap}
use Rattle.std.proofs.Common.{◌∙◌, arith, subst, Option, Some, None}
use Rattle.std.specs.Prelude.{flat_map, IsSomeAnd, ⊤}
use Rattle.std.specs.List.{AllByRecursion}
use Rattle.std.proofs.lemmas.List.{take_all}

-- the item at a place of a list, and those after it
record NextOf {A : Type 0} (Fit : A → Type 0) (xs : List A) (k : ℕ) : Type 0 where
  item : A
  fit : Fit item
  dropped : drop k xs ≡ item ∷ drop (k + 1) xs
  taken : take (k + 1) xs ≡ take k xs ++ item ∷ []

next_of : {A : Type 0} (Fit : A → Type 0) (xs : List A) (k : ℕ) → k < length xs → AllByRecursion Fit xs
    → NextOf Fit xs k
next_of Fit [] k below all = absurd (omega arith)
next_of Fit (x ∷ xs) zero below all = record { item = x; fit = all.0; dropped = refl; taken = refl }
next_of Fit (x ∷ xs) (suc k) below all =
    let rest = next_of Fit xs k (omega arith) all.1 in
    let n : suc k + 1 ≡ suc (k + 1) = omega arith in
    record {
      item = rest.item;
      fit = rest.fit;
      dropped = rest.dropped ∙ ap (λ (m : ℕ). rest.item ∷ drop m (x ∷ xs)) (sym n);
      taken = ap (λ (m : ℕ). take m (x ∷ xs)) n ∙ ap (λ ys. x ∷ ys) rest.taken;
    }

pub some_is : {A : Type 0} (o : Option A) (y x : A) → o ≡ Some y → IsSomeAnd o (λ read. read ≡ x) → y ≡ x
some_is {A} o y x e h = subst (λ (p : Option A). IsSomeAnd p (λ read. read ≡ x)) e h

pub none_is : {A : Type 0} (o : Option A) (P : A → Type 0) → o ≡ None → IsSomeAnd o P → ⊥
none_is {A} o P e h = subst (λ (p : Option A). IsSomeAnd p P) e h

module _ {A : Type 0} (print : A → List ℕ) (Fit : A → Type 0) (count : ℕ) (bytes : List ℕ) where
  -- so many items were read, and this is left
  abbrev pub IsReadUpTo : List ℕ → ℕ → List A → Type 0
  IsReadUpTo rest k items =
      (xs : List A) → length xs ≡ count → AllByRecursion Fit xs → bytes ≡ flat_map print xs
      → (items ≡ take k xs) × (rest ≡ flat_map print (drop k xs))

  pub none_read : (items : List A) → items ≡ [] → IsReadUpTo bytes 0 items
  none_read items is = λ xs n fit e. (is, e)

  pub one_read : (k : ℕ) (rest after : List ℕ) (items more : List A) (y : A) → k < count → IsReadUpTo rest k items
      → ((x : A) (others : List ℕ) → Fit x → rest ≡ print x ++ others → (y ≡ x) × (after ≡ others))
      → more ≡ items ++ y ∷ [] → IsReadUpTo after (k + 1) more
  one_read k rest after items more y below so_far one is =
      λ xs n fit e.
      let before = so_far xs n fit e in
      let next = next_of Fit xs k (omega arith) fit in
      let read = one next.item (flat_map print (drop (k + 1) xs)) next.fit
      (before.1 ∙ ap (flat_map print) next.dropped) in (
        is ∙ (λ i. before.0 i ++ read.0 i ∷ []) ∙ sym next.taken,
        read.1,
      )

  -- where there is no item there is no such table
  pub none_there : (k : ℕ) (rest : List ℕ) (items : List A) → k < count → IsReadUpTo rest k items
      → ((x : A) (others : List ℕ) → Fit x → rest ≡ print x ++ others → ⊥)
      → (xs : List A) → length xs ≡ count → AllByRecursion Fit xs → bytes ≡ flat_map print xs → ⊥
  none_there k rest items below so_far one xs n fit e =
      let before = so_far xs n fit e in
      let next = next_of Fit xs k (omega arith) fit in
      one next.item (flat_map print (drop (k + 1) xs)) next.fit (before.1 ∙ ap (flat_map print) next.dropped)

  pub all_read : (k : ℕ) (rest : List ℕ) (items : List A) → count ≡ k → IsReadUpTo rest k items
      → (xs : List A) → length xs ≡ count → AllByRecursion Fit xs → bytes ≡ flat_map print xs → items ≡ xs
  all_read k rest items end so_far xs n fit e = (so_far xs n fit e).0 ∙ take_all k xs (omega arith)

-- one more that fits
pub fits_push : {A : Type 0} (P : A → Type 0) (xs more : List A) (x : A) → more ≡ xs ++ x ∷ [] → AllByRecursion P xs
    → P x → AllByRecursion P more
fits_push {A} P xs more x e all p = subst (AllByRecursion P) (sym e) (push xs all)
  where
    push : (ys : List A) → AllByRecursion P ys → AllByRecursion P (ys ++ x ∷ [])
    push [] h = (p, tt)
    push (y ∷ ys) h = (h.0, push ys h.1)

pub all_top : {A : Type 0} (xs : List A) → AllByRecursion (λ (x : A). ⊤) xs
all_top [] = tt
all_top (x ∷ xs) = (tt, all_top xs)
