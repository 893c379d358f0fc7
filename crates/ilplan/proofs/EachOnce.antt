-- Each of some values once: which values are there, that none is there twice, and one value more.
use Rattle.std.proofs.Common.{◌≡◌, List, [], ◌∷◌, ◌++◌, refl, sym, ap, ◌∙◌, subst}
use Rattle.std.proofs.Common.{Bool, true, false, cond, ◌||◌}
use Rattle.std.specs.Prelude.{not, filter}
use Rattle.std.specs.Cmp.{booleans_Decides}
use Rattle.std.specs.List.{list_any, AllByRecursion, IsDistinct}
use Rattle.std.proofs.lemmas.Bool.Decides.{Decides-int_eq}
use Rattle.std.proofs.lemmas.List.{append-nil}
use Rattle.std.proofs.lemmas.List.Elements.{filter-append}
use Rattle.std.proofs.lemmas.Map.Keys.{IsDistinct-head, IsDistinct-tail, IsDistinct-cons}
use Rattle.std.proofs.lemmas.Map.Views.{any-filter_same}
use Rattle.iltypes.specs.declared.value.Value.{Value}
use Rattle.iltypes.specs.declared.value.Value.TheVariants as values
use Rattle.ilplan.specs.Constants.{same_value, each_once}

pub same_is : (v w : Value) → same_value v w ≡ true → v ≡ w
same_is (values.Bool a) (values.Bool b) e = ap (λ (x : Bool). values.Bool x) ((booleans_Decides a b).0 e)
same_is (values.Bool a) (values.Int b) e = absurd cc
same_is (values.Int a) (values.Bool b) e = absurd cc
same_is (values.Int a) (values.Int b) e = ap (λ x. values.Int x) ((Decides-int_eq a b).0 e)

pub is_same : (v : Value) → same_value v v ≡ true
is_same (values.Bool a) = (booleans_Decides a a).1 refl
is_same (values.Int a) = (Decides-int_eq a a).1 refl

either : (b : Bool) {P : Type 0} → (b ≡ true → P) → (b ≡ false → P) → P
either true t f = t refl
either false t f = f refl

pub same_sym : (v w : Value) → same_value v w ≡ same_value w v
same_sym v w =
    either (same_value v w)
    (λ t. subst (λ x. same_value v x ≡ same_value x v) (same_is v w t) refl)
    (λ f. either (same_value w v)
    (λ t. subst (λ x. same_value x w ≡ same_value w x) (same_is w v t) refl)
    (λ g. f ∙ sym g))

-- what is the same as one value and not as another is not the other
kept : (v x k : Value) → same_value v x ≡ false → same_value v k ≡ true → not (same_value x k) ≡ true
kept v x k f t =
    let e : same_value x v ≡ false = same_sym x v ∙ f in
    let g : same_value x k ≡ false = subst (λ y. same_value x y ≡ false) (same_is v k t) e in
    ap not g

-- the other values without one that is not looked for
passed_over : (v x : Value) (xs : List Value) → same_value v x ≡ false
    → list_any (same_value v) (filter (λ other. not (same_value x other)) xs) ≡ list_any (same_value v) xs
passed_over v x xs f = any-filter_same (same_value v) (λ other. not (same_value x other)) true (λ k. kept v x k f) xs

-- a value is there where it is among all
pub any_each_once : (v : Value) (xs : List Value) → list_any (same_value v) (each_once xs) ≡ list_any (same_value v) xs
any_each_once v [] = refl
any_each_once v (x ∷ xs) = either (same_value v x)
    (λ t. rw t refl)
    (λ f. rw f (passed_over v x (each_once xs) f ∙ any_each_once v xs))

-- the other values of a list that may have one more
others_more : (v x : Value) (ys : List Value) (b : Bool) → list_any (same_value v) ys ≡ b
    → x ∷ filter (λ other. not (same_value x other)) (cond b ys (ys ++ v ∷ []))
    ≡ cond (same_value v x || list_any (same_value v) (filter (λ other. not (same_value x other)) ys))
    (x ∷ filter (λ other. not (same_value x other)) ys)
    (x ∷ (filter (λ other. not (same_value x other)) ys ++ v ∷ []))
others_more v x ys b e = either (same_value v x) (known b) (new b e)
  where
    known : (b : Bool) → same_value v x ≡ true
        → x ∷ filter (λ other. not (same_value x other)) (cond b ys (ys ++ v ∷ []))
        ≡ cond (same_value v x || list_any (same_value v) (filter (λ other. not (same_value x other)) ys))
        (x ∷ filter (λ other. not (same_value x other)) ys)
        (x ∷ (filter (λ other. not (same_value x other)) ys ++ v ∷ []))
    known true t = rw t refl
    known false t =
        let g : same_value x v ≡ true = same_sym x v ∙ t in
        rw (t, filter-append (λ other. not (same_value x other)) ys (v ∷ []), g, append-nil) refl

    new : (b : Bool) → list_any (same_value v) ys ≡ b → same_value v x ≡ false
        → x ∷ filter (λ other. not (same_value x other)) (cond b ys (ys ++ v ∷ []))
        ≡ cond (same_value v x || list_any (same_value v) (filter (λ other. not (same_value x other)) ys))
        (x ∷ filter (λ other. not (same_value x other)) ys)
        (x ∷ (filter (λ other. not (same_value x other)) ys ++ v ∷ []))
    new true e f = rw (f, passed_over v x ys f, e) refl
    new false e f =
        let g : same_value x v ≡ false = same_sym x v ∙ f in
        rw (f, passed_over v x ys f, e, filter-append (λ other. not (same_value x other)) ys (v ∷ []), g) refl

-- with one value more, which goes last where it is new
pub each_once_more : (xs : List Value) (v : Value)
    → each_once (xs ++ v ∷ []) ≡ cond (list_any (same_value v) (each_once xs)) (each_once xs) (each_once xs ++ v ∷ [])
each_once_more [] v = refl
each_once_more (x ∷ xs) v =
    ap (λ ys. x ∷ filter (λ other. not (same_value x other)) ys) (each_once_more xs v)
    ∙ others_more v x (each_once xs) (list_any (same_value v) (each_once xs)) refl
    ∙ cond_tail (same_value v x || list_any (same_value v) (filter (λ other. not (same_value x other)) (each_once xs)))
  where
    cond_tail : (b : Bool) → cond b
        (x ∷ filter (λ other. not (same_value x other)) (each_once xs))
        (x ∷ (filter (λ other. not (same_value x other)) (each_once xs) ++ v ∷ []))
        ≡ cond b (each_once (x ∷ xs)) (each_once (x ∷ xs) ++ v ∷ [])
    cond_tail b = refl

-- none is there twice
still_all : (p : Value → Bool) (P : Value → Type 0) (ys : List Value) → AllByRecursion P ys
    → AllByRecursion P (filter p ys)
still_all p P [] all = tt
still_all p P (y ∷ ys) all =
    either (p y)
    (λ t. rw t (all.0, still_all p P ys all.1))
    (λ f. rw f (still_all p P ys all.1))

none_distinct : IsDistinct same_value []
unfolding IsDistinct
none_distinct = tt

still_distinct : (p : Value → Bool) (ys : List Value) → IsDistinct same_value ys → IsDistinct same_value (filter p ys)
still_distinct p [] d = d
still_distinct p (y ∷ ys) d =
    let rest = still_distinct p ys (IsDistinct-tail same_value y ys d) in
    let apart = still_all p (λ k. same_value y k ≡ false) ys (IsDistinct-head same_value y ys d) in
    either (p y)
    (λ t. rw t (IsDistinct-cons same_value y (filter p ys) apart rest))
    (λ f. rw f rest)

others_apart : (x : Value) (ys : List Value)
    → AllByRecursion (λ y. same_value x y ≡ false) (filter (λ other. not (same_value x other)) ys)
others_apart x [] = tt
others_apart x (y ∷ ys) =
    either (same_value x y)
    (λ t. rw t (others_apart x ys))
    (λ f. rw f (f, others_apart x ys))

pub each_once_distinct : (xs : List Value) → IsDistinct same_value (each_once xs)
each_once_distinct [] = none_distinct
each_once_distinct (x ∷ xs) =
    IsDistinct-cons same_value x (filter (λ other. not (same_value x other)) (each_once xs))
    (others_apart x (each_once xs))
    (still_distinct (λ other. not (same_value x other)) (each_once xs) (each_once_distinct xs))
