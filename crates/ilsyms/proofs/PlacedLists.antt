-- Lists: the elements that have a property, the first one that passes a test, and what stands at its number.
use Rattle.std.proofs.Common.{◌≡◌, ℕ, zero, suc, ◌+◌, List, [], ◌∷◌, ◌++◌, length, Bool, true, false, refl, sym, ap}
use Rattle.std.proofs.Common.{◌∙◌, subst, arith, inl, inr, ◌⊎◌, map}
use Rattle.std.specs.Prelude.{Option, Some, None, slice_get, option_map, if◌then◌else◌}
use Rattle.std.specs.List.{AllByRecursion, enumerate_from, list_any, position_or_len}
use Rattle.std.proofs.lemmas.Bool.{or_left, or_right}
use Rattle.std.proofs.lemmas.Option.{same_Some}
use Rattle.ildeclared.specs.Faults.{SomeOf}
use Rattle.ildeclared.proofs.FoundOrder.{or_else}
use Rattle.ilscope.specs.Tables.{first_at}
use Rattle.ilsyms.proofs.Lists.{either}
use Rattle.ilsyms.proofs.NumberingPlaces.{passed_over}

-- ---- the elements that have a property

pub some_as : {X : Type 0} (P Q : X → Type 0) → ((x : X) → P x → Q x) → (xs : List X) → SomeOf P xs → SomeOf Q xs
some_as P Q f [] s = absurd s
some_as P Q f (x ∷ xs) (inl p) = inl (f x p)
some_as P Q f (x ∷ xs) (inr s) = inr (some_as P Q f xs s)

pub some_passes : {X : Type 0} (P : X → Type 0) (test : X → Bool) → ((x : X) → P x → test x ≡ true) → (xs : List X)
    → SomeOf P xs → list_any test xs ≡ true
some_passes P test f [] s = absurd s
some_passes P test f (x ∷ xs) (inl p) = or_left (test x) (list_any test xs) (f x p)
some_passes P test f (x ∷ xs) (inr s) = or_right (test x) (list_any test xs) (some_passes P test f xs s)

pub passes_some : {X : Type 0} (P : X → Type 0) (test : X → Bool) → ((x : X) → test x ≡ true → P x) → (xs : List X)
    → list_any test xs ≡ true → SomeOf P xs
passes_some P test f [] e = absurd cc
passes_some P test f (x ∷ xs) e =
    either (test x) (λ t. inl (f x t)) (λ g. inr (passes_some P test f xs (rw g at e)))

pub some_left : {X : Type 0} (P : X → Type 0) (xs ys : List X) → SomeOf P xs → SomeOf P (xs ++ ys)
some_left P [] ys s = absurd s
some_left P (x ∷ xs) ys (inl p) = inl p
some_left P (x ∷ xs) ys (inr s) = inr (some_left P xs ys s)

pub some_right : {X : Type 0} (P : X → Type 0) (xs ys : List X) → SomeOf P ys → SomeOf P (xs ++ ys)
some_right P [] ys s = s
some_right P (x ∷ xs) ys s = inr (some_right P xs ys s)

pub some_parts : {X : Type 0} (P : X → Type 0) (xs ys : List X) → SomeOf P (xs ++ ys) → SomeOf P xs ⊎ SomeOf P ys
some_parts P [] ys s = inr s
some_parts P (x ∷ xs) ys (inl p) = inl (inl p)
some_parts P (x ∷ xs) ys (inr s) = or_else (λ l. inl (inr l)) (λ r. inr r) (some_parts P xs ys s)

pub some_made : {X Y : Type 0} (f : X → Y) (P : Y → Type 0) (xs : List X) → SomeOf P (map f xs)
    → SomeOf (λ x. P (f x)) xs
some_made f P [] s = absurd s
some_made f P (x ∷ xs) (inl p) = inl p
some_made f P (x ∷ xs) (inr s) = inr (some_made f P xs s)

pub made_some : {X Y : Type 0} (f : X → Y) (P : Y → Type 0) (xs : List X) → SomeOf (λ x. P (f x)) xs
    → SomeOf P (map f xs)
made_some f P [] s = absurd s
made_some f P (x ∷ xs) (inl p) = inl p
made_some f P (x ∷ xs) (inr s) = inr (made_some f P xs s)

-- what holds of each holds of the one of a number
pub each_at : {X : Type 0} (P : X → Type 0) (xs : List X) (k : ℕ) (x : X) → AllByRecursion P xs
    → slice_get xs k ≡ Some x → P x
each_at P [] k x all e = absurd cc
each_at P (y ∷ xs) zero x all e = let same : y ≡ x = cc in subst P same all.0
each_at P (y ∷ xs) (suc k) x all e = each_at P xs k x all.1 e

pub each_as : {X : Type 0} (P Q : X → Type 0) → ((x : X) → P x → Q x) → (xs : List X) → AllByRecursion P xs
    → AllByRecursion Q xs
each_as P Q f [] all = tt
each_as P Q f (x ∷ xs) all = (f x all.0, each_as P Q f xs all.1)

-- and of all, where it holds of the one of each number
pub at_each : {X : Type 0} (P : X → Type 0) (xs : List X) → ((k : ℕ) (x : X) → slice_get xs k ≡ Some x → P x)
    → AllByRecursion P xs
at_each P [] h = tt
at_each P (x ∷ xs) h = (h 0 x refl, at_each P xs (λ k y e. h (suc k) y e))

pub one_there : {X : Type 0} (xs : List X) (n m : ℕ) (x y : X) → slice_get xs n ≡ Some x → slice_get xs m ≡ Some y
    → n ≡ m → x ≡ y
one_there xs n m x y e f same =
    let both : Some x ≡ Some y = sym e ∙ ap (λ k. slice_get xs k) same ∙ f in
    same_Some x y both

-- ---- the first one that passes

pub first_is : {X : Type 0} (test : X → Bool) (xs : List X) (k : ℕ) → first_at test xs ≡ Some k
    → (x : X) × (slice_get xs k ≡ Some x) × (test x ≡ true)
first_is test [] k e = absurd cc
first_is {X} test (y ∷ xs) k e =
    by (test y) refl (first_at test xs) (first_is test xs) e
  where
    by : (b : Bool) → test y ≡ b → (o : Option ℕ)
        → ((j : ℕ) → o ≡ Some j → (x : X) × (slice_get xs j ≡ Some x) × (test x ≡ true))
        → (if b then Some 0 else option_map suc o) ≡ Some k
        → (x : X) × (slice_get (y ∷ xs) k ≡ Some x) × (test x ≡ true)
    by true t o rest h =
        let here : 0 ≡ k = same_Some 0 k h in
        (y, ap (λ n. slice_get (y ∷ xs) n) (sym here), t)
    by false t None rest h = absurd cc
    by false t (Some j) rest h =
        let later : suc j ≡ k = same_Some (suc j) k h in
        let there = rest j refl in
        (there.0, ap (λ n. slice_get (y ∷ xs) n) (sym later) ∙ there.1, there.2)

pub first_found : {X : Type 0} (test : X → Bool) (xs : List X) → list_any test xs ≡ true
    → (k : ℕ) × (first_at test xs ≡ Some k)
first_found test [] e = absurd cc
first_found test (y ∷ xs) e =
    either (test y)
    (λ t. (0, rw t refl))
    (λ f. let rest = first_found test xs (rw f at e) in let its = rest.1 in (suc rest.0, rw (f, its) refl))

-- ---- what stands at its number

-- it is this one
abbrev pub Finds : {X : Type 0} → (X → Bool) → X → List X → Type 0
Finds test x xs = slice_get xs (position_or_len test xs) ≡ Some x

next : {X : Type 0} (y : X) (xs : List X) (n : ℕ) → slice_get (y ∷ xs) (1 + n) ≡ slice_get xs n
next y xs n = let e : 1 + n ≡ suc n = omega arith in ap (λ k. slice_get (y ∷ xs) k) e

pub finds_here : {X : Type 0} (test : X → Bool) (x : X) (xs : List X) → test x ≡ true → Finds test x (x ∷ xs)
finds_here test x xs t = rw t refl

pub finds_later : {X : Type 0} (test : X → Bool) (x y : X) (xs : List X) → test y ≡ false → Finds test x xs
    → Finds test x (y ∷ xs)
finds_later test x y xs f h = rw f (next y xs (position_or_len test xs) ∙ h)

pub finds_front : {X : Type 0} (test : X → Bool) (x : X) (xs ys : List X) → Finds test x xs → Finds test x (xs ++ ys)
finds_front test x [] ys h = absurd cc
finds_front test x (y ∷ xs) ys h =
    either (test y)
    (λ t. let here : Some y ≡ Some x = rw t at h in rw t here)
    (λ f. let later : slice_get (y ∷ xs) (1 + position_or_len test xs) ≡ Some x = rw f at h in
    finds_later test x y (xs ++ ys) f
    (finds_front test x xs ys (sym (next y xs (position_or_len test xs)) ∙ later)))

past : {X : Type 0} (xs ys : List X) (k : ℕ) → slice_get (xs ++ ys) (length xs + k) ≡ slice_get ys k
past [] ys k = let e : 0 + k ≡ k = omega arith in ap (λ n. slice_get ys n) e
past (x ∷ xs) ys k =
    let e : suc (length xs) + k ≡ suc (length xs + k) = omega arith in
    ap (λ n. slice_get (x ∷ (xs ++ ys)) n) e ∙ past xs ys k

pub finds_past : {X : Type 0} (test : X → Bool) (x : X) (xs ys : List X) → list_any test xs ≡ false
    → Finds test x ys → Finds test x (xs ++ ys)
finds_past test x xs ys none h =
    ap (λ n. slice_get (xs ++ ys) n) (passed_over test xs ys none) ∙ past xs ys (position_or_len test ys) ∙ h

-- ---- numbered elements

pub rows_at : {X : Type 0} (xs : List X) (k n : ℕ)
    → slice_get (enumerate_from k xs) n ≡ option_map (λ x. (k + n, x)) (slice_get xs n)
rows_at [] k n = refl
rows_at (x ∷ xs) k zero = let e : k ≡ k + 0 = omega arith in ap (λ m. Some (m, x)) e
rows_at (x ∷ xs) k (suc n) =
    let e : (k + 1) + n ≡ k + suc n = omega arith in
    rows_at xs (k + 1) n ∙ ap (λ m. option_map (λ y. (m, y)) (slice_get xs n)) e

-- the one of a number is there under it
pub row_there : {X : Type 0} (xs : List X) (n : ℕ) (x : X) → slice_get xs n ≡ Some x
    → slice_get (enumerate_from 0 xs) n ≡ Some (n, x)
row_there xs n x e =
    let zero_plus : 0 + n ≡ n = omega arith in
    rows_at xs 0 n ∙ ap (λ o. option_map (λ y. (0 + n, y)) o) e ∙ ap (λ m. Some (m, x)) zero_plus

-- and what is there under a number is the one of that number
pub row_is : {X : Type 0} (xs : List X) (n : ℕ) (row : ℕ × X) → slice_get (enumerate_from 0 xs) n ≡ Some row
    → (n ≡ row.0) × (slice_get xs n ≡ Some row.1)
row_is {X} xs n row e = by (slice_get xs n) refl (sym (rows_at xs 0 n) ∙ e)
  where
    by : (o : Option X) → slice_get xs n ≡ o → option_map (λ x. (0 + n, x)) o ≡ Some row
        → (n ≡ row.0) × (slice_get xs n ≡ Some row.1)
    by None is h = absurd cc
    by (Some x) is h =
        let same : (0 + n, x) ≡ row = same_Some (0 + n, x) row h in
        let zero_plus : 0 + n ≡ n = omega arith in
        (sym zero_plus ∙ ap (λ r. r.0) same, is ∙ ap (λ r. Some r.1) same)
