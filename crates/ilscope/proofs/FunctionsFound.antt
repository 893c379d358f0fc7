-- The first element that passes, of the first so many: by its number among all. Whether one passes, of all and of a
-- front.
use Rattle.std.proofs.Common.{◌≡◌, ◌∙◌, ℕ, zero, suc, ◌<◌, ◌≤◌, List, [], ◌∷◌, ◌++◌, Bool, true, false, take, length}
use Rattle.std.proofs.Common.{get_or, refl, sym, ap, arith, inl, inr}
use Rattle.std.specs.Prelude.{Option, Some, None, IfSome, IsSome, is_some, option_and_then, option_map, slice_get}
use Rattle.std.specs.Prelude.{if◌then◌else◌}
use Rattle.ildeclared.specs.Faults.{SomeOf}
use Rattle.ildeclared.proofs.Least.{got_at}
use Rattle.ilscope.specs.Tables.{first_at}

module _ {X : Type 0} (test : X → Bool) where
  abbrev pub first_of : ℕ → List X → Option X
  first_of n xs = option_and_then (slice_get (take n xs)) (first_at test (take n xs))

  -- what an element more in front changes
  one_later : (x : X) (ys : List X) (o : Option ℕ)
      → option_and_then (slice_get (x ∷ ys)) (option_map suc o) ≡ option_and_then (slice_get ys) o
  one_later x ys None = refl
  one_later x ys (Some k) = refl

  pub first_none : (n : ℕ) (xs : List X) → first_at test xs ≡ None → first_of n xs ≡ None
  first_none zero xs e = refl
  first_none (suc n) [] e = refl
  first_none (suc n) (x ∷ xs) e = by (test x) (first_at test xs) refl (λ f. first_none n xs f) e
    where
      by : (b : Bool) (o : Option ℕ) → first_at test xs ≡ o → (first_at test xs ≡ None → first_of n xs ≡ None)
          → (if b then Some 0 else option_map suc o) ≡ None
          → option_and_then (slice_get (x ∷ take n xs))
          (if b then Some 0 else option_map suc (first_at test (take n xs))) ≡ None
      by true o f later g = absurd cc
      by false (Some k) f later g = absurd cc
      by false None f later g = one_later x (take n xs) (first_at test (take n xs)) ∙ later f

  pub first_within : (n k : ℕ) (xs : List X) → first_at test xs ≡ Some k → k < n → first_of n xs ≡ slice_get xs k
  first_within n k [] e b = absurd cc
  first_within zero k (x ∷ xs) e b = absurd (omega (arith, b))
  first_within (suc n) k (x ∷ xs) e b = by (test x) (first_at test xs) refl (λ j f c. first_within n j xs f c) e
    where
      by : (b : Bool) (o : Option ℕ) → first_at test xs ≡ o
          → ((j : ℕ) → first_at test xs ≡ Some j → j < n → first_of n xs ≡ slice_get xs j)
          → (if b then Some 0 else option_map suc o) ≡ Some k
          → option_and_then (slice_get (x ∷ take n xs))
          (if b then Some 0 else option_map suc (first_at test (take n xs))) ≡ slice_get (x ∷ xs) k
      by true o f later g = let zero_is : 0 ≡ k = cc in ap (λ (i : ℕ). slice_get (x ∷ xs) i) zero_is
      by false None f later g = absurd cc
      by false (Some j) f later g =
          let next : suc j ≡ k = cc in
          let below : j < n = omega (arith, next, b) in
          one_later x (take n xs) (first_at test (take n xs))
          ∙ later j f below
          ∙ ap (λ (i : ℕ). slice_get (x ∷ xs) i) next

  pub first_past : (n k : ℕ) (xs : List X) → first_at test xs ≡ Some k → n ≤ k → first_of n xs ≡ None
  first_past n k [] e b = absurd cc
  first_past zero k (x ∷ xs) e b = refl
  first_past (suc n) k (x ∷ xs) e b = by (test x) (first_at test xs) refl (λ j f c. first_past n j xs f c) e
    where
      by : (b : Bool) (o : Option ℕ) → first_at test xs ≡ o
          → ((j : ℕ) → first_at test xs ≡ Some j → n ≤ j → first_of n xs ≡ None)
          → (if b then Some 0 else option_map suc o) ≡ Some k
          → option_and_then (slice_get (x ∷ take n xs))
          (if b then Some 0 else option_map suc (first_at test (take n xs))) ≡ None
      by true o f later g = let zero_is : 0 ≡ k = cc in absurd (omega (arith, zero_is, b))
      by false None f later g = absurd cc
      by false (Some j) f later g =
          let next : suc j ≡ k = cc in
          let past : n ≤ j = omega (arith, next, b) in
          one_later x (take n xs) (first_at test (take n xs)) ∙ later j f past

  -- ---- whether one passes

  abbrev pub Passes : X → Type 0
  Passes x = test x ≡ true

  pub found_passes : (xs : List X) → is_some (option_and_then (slice_get xs) (first_at test xs)) ≡ true
      → SomeOf Passes xs
  found_passes [] e = absurd cc
  found_passes (x ∷ xs) e = by (test x) refl (λ f. found_passes xs f) e
    where
      by : (b : Bool) → test x ≡ b
          → (is_some (option_and_then (slice_get xs) (first_at test xs)) ≡ true → SomeOf Passes xs)
          → is_some (option_and_then (slice_get (x ∷ xs)) (if b then Some 0 else option_map suc (first_at test xs)))
          ≡ true
          → SomeOf Passes (x ∷ xs)
      by true is later e = inl is
      by false is later e =
          inr (later (ap (λ (o : Option X). is_some o) (sym (one_later x xs (first_at test xs))) ∙ e))

  pub passes_found : (xs : List X) → SomeOf Passes xs
      → is_some (option_and_then (slice_get xs) (first_at test xs)) ≡ true
  passes_found [] s = absurd s
  passes_found (x ∷ xs) (inl is) = rw is refl
  passes_found (x ∷ xs) (inr s) = by (test x) (passes_found xs s)
    where
      by : (b : Bool) → is_some (option_and_then (slice_get xs) (first_at test xs)) ≡ true
          → is_some (option_and_then (slice_get (x ∷ xs)) (if b then Some 0 else option_map suc (first_at test xs)))
          ≡ true
      by true e = refl
      by false e = ap (λ (o : Option X). is_some o) (one_later x xs (first_at test xs)) ∙ e

  -- the first of all is one of a front exactly where one of the front passes
  pub in_front : (xs ys : List X) (k : ℕ) → first_at test (xs ++ ys) ≡ Some k → k < length xs → SomeOf Passes xs
  in_front [] ys k e b = absurd (omega (arith, b))
  in_front (x ∷ xs) ys k e b =
      by (test x) (first_at test (xs ++ ys)) refl refl (λ j f c. in_front xs ys j f c) e
    where
      by : (t : Bool) (o : Option ℕ) → test x ≡ t → first_at test (xs ++ ys) ≡ o
          → ((j : ℕ) → first_at test (xs ++ ys) ≡ Some j → j < length xs → SomeOf Passes xs)
          → (if t then Some 0 else option_map suc o) ≡ Some k → SomeOf Passes (x ∷ xs)
      by true o is f later g = inl is
      by false None is f later g = absurd cc
      by false (Some j) is f later g =
          let next : suc j ≡ k = cc in
          let below : j < length xs = omega (arith, next, b) in
          inr (later j f below)

  pub front_first : (xs ys : List X) (k : ℕ) → first_at test (xs ++ ys) ≡ Some k → SomeOf Passes xs → k < length xs
  front_first [] ys k e s = absurd s
  front_first (x ∷ xs) ys k e (inl is) =
      let first : Some 0 ≡ Some k = rw is at e in
      let zero_is : 0 ≡ k = cc in
      omega (arith, zero_is)
  front_first (x ∷ xs) ys k e (inr s) =
      by (test x) (first_at test (xs ++ ys)) refl (λ j f. front_first xs ys j f s) e
    where
      by : (t : Bool) (o : Option ℕ) → first_at test (xs ++ ys) ≡ o
          → ((j : ℕ) → first_at test (xs ++ ys) ≡ Some j → j < length xs)
          → (if t then Some 0 else option_map suc o) ≡ Some k → k < length (x ∷ xs)
      by true o f later g = let zero_is : 0 ≡ k = cc in omega (arith, zero_is)
      by false None f later g = absurd cc
      by false (Some j) f later g =
          let next : suc j ≡ k = cc in
          let more : j < length xs = later j f in
          omega (arith, next, more)

pub same_some : {X Y : Type 0} (f : X → Y) (o : Option X) → is_some (option_map f o) ≡ is_some o
same_some f None = refl
same_some f (Some x) = refl

-- what is read at a number below that of all
pub read_at : {X Y : Type 0} (f : X → Y) (ys : List Y) (k : ℕ) (o : Option X) → (k < length ys → IsSome o)
    → IfSome o (λ x. f x ≡ get_or ys k (f x)) → k < length ys → option_map f o ≡ slice_get ys k
read_at f ys k None some is below = let there = some below in absurd cc
read_at f ys k (Some x) some is below = sym (got_at ys k (f x) below is)
