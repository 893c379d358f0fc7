-- What holds of each token of an item: of what it spells, and of its fronts.
use Rattle.std.proofs.Common.{◌≡◌, List, [], ◌∷◌, ◌++◌, Option, Some, None, sym, subst}
use Rattle.std.proofs.Common.{inl, inr}
use Rattle.std.specs.List.{AllByRecursion}
use Rattle.iltokens.specs.Items.{Item, one, one_whole, one_part, map, seq, lead, select, opt, opt_whole, alt, many}
use Rattle.iltokens.specs.Items.{many_whole}
use Rattle.iltext.specs.declared.token.Token.{Token}

pub all_append : (P : Token → Type 0) (u v : List Token) → AllByRecursion P u → AllByRecursion P v
    → AllByRecursion P (u ++ v)
all_append P [] v h k = k
all_append P (t ∷ u) v h k = (h.0, all_append P u v h.1 k)

pub record Holds (P : Token → Type 0) {A : Type 0} (a : Item Token A) : Type 0 where
  pub whole : (ts : List Token) (x : A) → a.whole ts x → AllByRecursion P ts
  pub part : (ts : List Token) → a.part ts → AllByRecursion P ts

module _ (P : Token → Type 0) where
  abbrev All : List Token → Type 0
  All ts = AllByRecursion P ts

  joined : (ts u v : List Token) → ts ≡ u ++ v → All u → All v → All ts
  joined ts u v e h k = subst (AllByRecursion P) (sym e) (all_append P u v h k)

  nothing : (ts : List Token) → ts ≡ [] → All ts
  nothing ts e = subst (AllByRecursion P) (sym e) tt

  module _ {A : Type 0} (class : Token → Option A) (h : (t : Token) (x : A) → class t ≡ Some x → P t) where
    one_holds : (ts : List Token) (x : A) → one_whole class ts x → All ts
    one_holds [] x w = absurd w
    one_holds (t ∷ []) x w = (h t x w, tt)
    one_holds (t ∷ u ∷ ts) x w = absurd w

    one_part_holds : (ts : List Token) → one_part class ts → All ts
    one_part_holds [] w = tt
    one_part_holds (t ∷ ts) w = one_holds (t ∷ ts) w.0 w.1

  pub Holds-one : {A : Type 0} (class : Token → Option A) → ((t : Token) (x : A) → class t ≡ Some x → P t)
      → Holds P (one class)
  Holds-one class h = record { whole = one_holds class h; part = one_part_holds class h }

  pub Holds-map : {A B : Type 0} {a : Item Token A} → (f : A → B) → Holds P a → Holds P (map f a)
  Holds-map f x = record { whole = λ ts y w. x.whole ts w.0 w.1; part = x.part }

  module _ {A B : Type 0} (a : Item Token A) (b : Item Token B) (x : Holds P a) (y : Holds P b) where
    seq_whole : (ts : List Token) (z : A × B) → (seq a b).whole ts z → All ts
    seq_whole ts z w = joined ts w.0 w.1 w.2 (x.whole w.0 z.0 w.3) (y.whole w.1 z.1 w.4)

    seq_part : (ts : List Token) → (seq a b).part ts → All ts
    seq_part ts (inl h) = x.part ts h
    seq_part ts (inr h) = joined ts h.0 h.1 h.3 (x.whole h.0 h.2 h.4) (y.part h.1 h.5)

  pub Holds-seq : {A B : Type 0} {a : Item Token A} {b : Item Token B} → Holds P a → Holds P b → Holds P (seq a b)
  Holds-seq {a} {b} x y = record { whole = seq_whole a b x y; part = seq_part a b x y }

  pub Holds-lead : {A B : Type 0} {a : Item Token A} {b : Item Token B} → Holds P a → Holds P b → Holds P (lead a b)
  Holds-lead {a} {b} x y = record { whole = seq_whole a b x y; part = seq_part a b x y }

  module _ {A B : Type 0} (a : Item Token A) (b : A → Item Token B) (x : Holds P a) (y : (z : A) → Holds P (b z)) where
    select_whole : (ts : List Token) (z : B) → (select a b).whole ts z → All ts
    select_whole ts z w = joined ts w.0 w.1 w.3 (x.whole w.0 w.2 w.4) ((y w.2).whole w.1 z w.5)

    select_part : (ts : List Token) → (select a b).part ts → All ts
    select_part ts (inl h) = x.part ts h
    select_part ts (inr h) = joined ts h.0 h.1 h.3 (x.whole h.0 h.2 h.4) ((y h.2).part h.1 h.5)

  pub Holds-select : {A B : Type 0} {a : Item Token A} {b : A → Item Token B} → Holds P a
      → ((z : A) → Holds P (b z)) → Holds P (select a b)
  Holds-select {a} {b} x y = record { whole = select_whole a b x y; part = select_part a b x y }

  module _ {A : Type 0} (a : Item Token A) (x : Holds P a) where
    opt_holds : (ts : List Token) (o : Option A) → opt_whole a ts o → All ts
    opt_holds ts None w = nothing ts w
    opt_holds ts (Some y) w = x.whole ts y w

    many_holds : (ts : List Token) (ys : List A) → many_whole a ts ys → All ts
    many_holds ts [] w = nothing ts w
    many_holds ts (y ∷ ys) w = joined ts w.0 w.1 w.2 (x.whole w.0 y w.3) (many_holds w.1 ys w.4)

  pub Holds-opt : {A : Type 0} {a : Item Token A} → Holds P a → Holds P (opt a)
  Holds-opt {a} x = record { whole = opt_holds a x; part = x.part }

  pub Holds-many : {A : Type 0} {a : Item Token A} → Holds P a → Holds P (many a)
  Holds-many {a} x = record {
    whole = many_holds a x;
    part = λ ts h. joined ts h.0 h.1 h.3 (many_holds a x h.0 h.2 h.4) (x.part h.1 h.5);
  }

  module _ {A : Type 0} (a b : Item Token A) (x : Holds P a) (y : Holds P b) where
    alt_holds : (ts : List Token) (z : A) → (alt a b).whole ts z → All ts
    alt_holds ts z (inl w) = x.whole ts z w
    alt_holds ts z (inr w) = y.whole ts z w

    alt_part_holds : (ts : List Token) → (alt a b).part ts → All ts
    alt_part_holds ts (inl h) = x.part ts h
    alt_part_holds ts (inr h) = y.part ts h

  pub Holds-alt : {A : Type 0} {a b : Item Token A} → Holds P a → Holds P b → Holds P (alt a b)
  Holds-alt {a} {b} x y = record { whole = alt_holds a b x y; part = alt_part_holds a b x y }

-- ---- what holds of more tokens

all_weaker : (P Q : Token → Type 0) → ((t : Token) → P t → Q t) → (ts : List Token) → AllByRecursion P ts
    → AllByRecursion Q ts
all_weaker P Q to [] h = tt
all_weaker P Q to (t ∷ ts) h = (to t h.0, all_weaker P Q to ts h.1)

pub Holds-weaker : (P Q : Token → Type 0) → ((t : Token) → P t → Q t) → {A : Type 0} {a : Item Token A} → Holds P a
    → Holds Q a
Holds-weaker P Q to x = record {
  whole = λ ts z w. all_weaker P Q to ts (x.whole ts z w);
  part = λ ts h. all_weaker P Q to ts (x.part ts h);
}
