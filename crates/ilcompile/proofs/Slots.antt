-- Slots: what a write leaves, and where two lists are alike.
use Rattle.std.proofs.Common.{◌≡◌, ◌≢◌, ℕ, zero, suc, ◌+◌, ◌<◌, ◌≤◌, List, [], ◌∷◌, ◌++◌, length, Bool, true, false}
use Rattle.std.proofs.Common.{Some, refl, sym, ap, ◌∙◌, arith, length-append}
use Rattle.std.specs.Prelude.{slice_get, slice_set, nat_eq, take}
use Rattle.std.proofs.lemmas.Bool.Decides.{nat_tests}
use Rattle.iltypes.specs.declared.value.Value.{Value}

-- from this place on stand these
abbrev pub Holds : {X : Type 0} → List X → ℕ → List X → Type 0
Holds xs k ys = (i : ℕ) → i < length ys → slice_get xs (k + i) ≡ slice_get ys i

-- as long, and alike below the first place and from the second on
pub record Same (lo hi : ℕ) (s t : List Value) : Type 0 where
  pub long : length t ≡ length s
  pub below : (i : ℕ) → i < lo → slice_get t i ≡ slice_get s i
  pub above : (i : ℕ) → hi ≤ i → slice_get t i ≡ slice_get s i

pub same_all : (lo hi : ℕ) (s : List Value) → Same lo hi s s
same_all lo hi s = record { long = refl; below = λ i h. refl; above = λ i h. refl }

pub same_then : (lo hi : ℕ) (s t u : List Value) → Same lo hi s t → Same lo hi t u → Same lo hi s u
same_then lo hi s t u a b =
    record {
      long = b.long ∙ a.long;
      below = λ i h. b.below i h ∙ a.below i h;
      above = λ i h. b.above i h ∙ a.above i
          h;
    }

pub same_wider : (lo hi lo2 hi2 : ℕ) (s t : List Value) → lo2 ≤ lo → hi ≤ hi2 → Same lo hi s t → Same lo2 hi2 s t
same_wider lo hi lo2 hi2 s t l h a =
    record { long = a.long; below = λ i q. a.below i (omega arith); above = λ i q. a.above i (omega arith) }

-- ---- one write

module _ {X : Type 0} where
  pub set_long : (xs : List X) (k : ℕ) (x : X) → length (slice_set xs k x) ≡ length xs
  set_long [] k x = refl
  set_long (y ∷ xs) zero x = refl
  set_long (y ∷ xs) (suc k) x = ap suc (set_long xs k x)

  pub get_set_here : (xs : List X) (k : ℕ) (x : X) → k < length xs → slice_get (slice_set xs k x) k ≡ Some x
  get_set_here [] k x h = absurd (omega arith)
  get_set_here (y ∷ xs) zero x h = refl
  get_set_here (y ∷ xs) (suc k) x h = get_set_here xs k x (omega arith)

  pub get_set_other : (xs : List X) (k i : ℕ) (x : X) → k ≢ i → slice_get (slice_set xs k x) i ≡ slice_get xs i
  get_set_other [] k i x h = refl
  get_set_other (y ∷ xs) zero zero x h = absurd (h refl)
  get_set_other (y ∷ xs) zero (suc i) x h = refl
  get_set_other (y ∷ xs) (suc k) zero x h = refl
  get_set_other (y ∷ xs) (suc k) (suc i) x h = get_set_other xs k i x (λ q. h (ap suc q))

  pub get_front : (xs ys : List X) (i : ℕ) → i < length xs → slice_get (xs ++ ys) i ≡ slice_get xs i
  get_front [] ys i h = absurd (omega arith)
  get_front (x ∷ xs) ys zero h = refl
  get_front (x ∷ xs) ys (suc i) h = get_front xs ys i (omega arith)

  pub get_back : (xs ys : List X) (i : ℕ) → slice_get (xs ++ ys) (length xs + i) ≡ slice_get ys i
  get_back [] ys i = let e : 0 + i ≡ i = omega arith in ap (slice_get ys) e
  get_back (x ∷ xs) ys i =
      let e : length (x ∷ xs) + i ≡ suc (length xs + i) = omega arith in
      ap (slice_get (x ∷ (xs ++ ys))) e ∙ get_back xs ys i

  pub holds_front : (zs : List X) (k : ℕ) (xs ys : List X) → Holds zs k (xs ++ ys) → Holds zs k xs
  holds_front zs k xs ys h i lt = h i (let e = length-append xs ys in omega arith) ∙ get_front xs ys i lt

  pub holds_back : (zs : List X) (k : ℕ) (xs ys : List X) → Holds zs k (xs ++ ys) → Holds zs (k + length xs) ys
  holds_back zs k xs ys h i lt =
      let e : k + length xs + i ≡ k + (length xs + i) = omega arith in
      ap (slice_get zs) e ∙ (h (length xs + i) (let f = length-append xs ys in omega arith) ∙ get_back xs ys i)

  pub holds_both : (zs : List X) (k : ℕ) (xs ys : List X) → Holds zs k xs → Holds zs (k + length xs) ys
      → Holds zs k (xs ++ ys)
  holds_both zs k [] ys h g i lt = let e : k + i ≡ k + 0 + i = omega arith in ap (slice_get zs) e ∙ g i lt
  holds_both zs k (x ∷ xs) ys h g zero lt = h 0 (omega arith)
  holds_both zs k (x ∷ xs) ys h g (suc i) lt =
      let e : k + suc i ≡ k + 1 + i = omega arith in
      ap (slice_get zs) e
      ∙ holds_both zs (k + 1) xs ys
      (λ j l. let f : k + 1 + j ≡ k + suc j = omega arith in ap (slice_get zs) f ∙ h (suc j) (omega arith))
      (λ j l. let f : k + 1 + length xs + j ≡ k + suc (length xs) + j = omega arith in ap (slice_get zs) f ∙ g j l) i
      (omega arith)

  -- lists that are alike as far as the one goes
  pub same_front : (xs zs : List X) → Holds zs 0 xs → take (length xs) zs ≡ xs
  same_front [] zs h = refl
  same_front (x ∷ xs) [] h = absurd (let e = h 0 (omega arith) in cc)
  same_front (x ∷ xs) (z ∷ zs) h =
      let e : z ≡ x = (let q = h 0 (omega arith) in cc) in
      ap (λ ys. z ∷ ys) (same_front xs zs (λ i l.
      let f : 0 + suc i ≡ suc (0 + i) = omega arith in
      ap (slice_get (z ∷ zs)) (sym f) ∙ h (suc i) (omega arith)))
      ∙ ap (λ y. y ∷ xs) e

  pub there : (xs : List X) (i : ℕ) → i < length xs → (x : X) × (slice_get xs i ≡ Some x)
  there [] i h = absurd (omega arith)
  there (x ∷ xs) zero h = (x, refl)
  there (x ∷ xs) (suc i) h = there xs i (omega arith)

-- the one number or another
pub same_or : {P : Type 0} (k i : ℕ) → (k ≡ i → P) → (k ≢ i → P) → P
same_or {P} k i f g = by (nat_eq k i) refl
  where
    by : (b : Bool) → nat_eq k i ≡ b → P
    by true e = f (grind (arith, nat_tests))
    by false e = g (λ q. let u : nat_eq k i ≡ true = grind (arith, nat_tests) in absurd (cc))

pub set_same : (lo hi : ℕ) (t : List Value) (k : ℕ) (v : Value) → lo ≤ k → k < hi → Same lo hi t (slice_set t k v)
set_same lo hi t k v l u =
    record {
      long = set_long t k v;
      below = λ i q. get_set_other t k i v (λ e. absurd (omega arith));
      above = λ i q. get_set_other t k i v (λ e. absurd (omega arith));
    }
