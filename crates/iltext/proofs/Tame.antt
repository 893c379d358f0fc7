-- Items of which whole tokens leave the count of open parentheses as it was, and of which fronts do so too, or end
-- inside the content of a parenthesis.
use Rattle.std.proofs.Common.{◌≡◌, ℕ, zero, suc, Bool, true, false, List, [], ◌∷◌, ◌++◌, Option, Some, None, refl}
use Rattle.std.proofs.Common.{◌⊎◌, inl, inr, sym, ap, subst, ◌∙◌, append_assoc}
use Rattle.iltokens.specs.Items.{Item, map, seq, lead, select, opt, opt_whole, alt, many}
use Rattle.iltokens.specs.Items.{many_whole}
use Rattle.iltext.specs.declared.token.Token.{Token}
use Rattle.iltext.specs.Instructions.{content}
use Rattle.iltext.specs.Faults.{defers, open_after_all}
use Rattle.iltext.proofs.Counts.{AreInner, counted-append, ends, ends-append, inner-append, Opens}

-- the numbers of parentheses that may be open around an item
abbrev pub Any : ℕ → Type 0
Any m = Unit {0}

abbrev pub Nil : ℕ → Type 0
Nil m = m ≡ 0

-- the tokens leave each such count as it was; and where one may be open around them, they may stand in it
pub record Level (M : ℕ → Type 0) (before : Bool) (ts : List Token) : Type 0 where
  pub count : (m : ℕ) → M m → open_after_all before m ts ≡ m
  pub inner : M 1 → AreInner before ts

-- the content of a parenthesis, where so many may be open
abbrev pub Below : ℕ → ℕ → List Token → Type 0
Below zero at ts = ⊥
Below (suc more) at ts = (content more at).part ts

-- the tokens end inside a parenthesis: in its content, before which nothing is left open
pub record Opened (M : ℕ → Type 0) (more : ℕ) (part : List Token → Type 0) (ts : List Token) : Type 0 where
  pub before : List Token
  pub operator : Token
  pub parenthesis : Token
  pub after : List Token
  pub same : ts ≡ before ++ operator ∷ parenthesis ∷ after
  pub deferrable : defers operator.kind ≡ true
  pub opens : Opens parenthesis
  pub level : Level M false (before ++ operator ∷ [])
  pub inside : Below more operator.from after
  pub front : part (before ++ operator ∷ [])

pub record Tame (M : ℕ → Type 0) (more : ℕ) {A : Type 0} (a : Item Token A) : Type 0 where
  pub whole : (ts : List Token) (x : A) → a.whole ts x → Level M false ts × (ends false ts ≡ false)
  pub part : (ts : List Token) → a.part ts → Level M false ts ⊎ Opened M more a.part ts

module _ (M : ℕ → Type 0) where
  pub Level-append : (b : Bool) (u v : List Token) → Level M b u → ends b u ≡ false → Level M false v
      → Level M b (u ++ v)
  Level-append b u v h e k = record {
    count = λ m is.
        counted-append b m u v
        ∙ ap (λ (c : Bool). open_after_all c (open_after_all b m u) v) e
        ∙ ap (λ (n : ℕ). open_after_all false n v) (h.count m is)
        ∙ k.count m is;
    inner = λ one. inner-append b u v (h.inner one) (subst (λ (c : Bool). AreInner c v) (sym e) (k.inner one));
  }

  pub Level-nil : (b : Bool) → Level M b []
  Level-nil b = record { count = λ m is. refl; inner = λ one. tt }

  pub ends_false : (b : Bool) (u v : List Token) → ends b u ≡ false → ends false v ≡ false → ends b (u ++ v) ≡ false
  ends_false b u v e f = ends-append b u v ∙ ap (λ (c : Bool). ends c v) e ∙ f

  pub Level-same : (b : Bool) (u v : List Token) → u ≡ v → Level M b v → Level M b u
  Level-same b u v e h = subst (Level M b) (sym e) h

  -- tokens that leave the count as it was, before those that end inside
  pub Opened-after : (more : ℕ) (p q : List Token → Type 0) (ts u v : List Token) → ts ≡ u ++ v
      → Level M false u → ends false u ≡ false
      → ((w : List Token) → p w → q (u ++ w)) → Opened M more p v → Opened M more q ts
  Opened-after more p q ts u v e h f to o = record {
    before = u ++ o.before;
    operator = o.operator;
    parenthesis = o.parenthesis;
    after = o.after;
    same = e ∙ ap (λ (w : List Token). u ++ w) o.same
        ∙ sym (append_assoc u o.before (o.operator ∷ o.parenthesis ∷ o.after));
    deferrable = o.deferrable;
    opens = o.opens;
    level = Level-same false ((u ++ o.before) ++ o.operator ∷ []) (u ++ (o.before ++ o.operator ∷ []))
        (append_assoc u o.before (o.operator ∷ []))
        (Level-append false u (o.before ++ o.operator ∷ []) h f o.level);
    inside = o.inside;
    front = subst q (sym (append_assoc u o.before (o.operator ∷ []))) (to (o.before ++ o.operator ∷ []) o.front);
  }

  pub Opened-as : (more : ℕ) (p q : List Token → Type 0) (ts : List Token) → ((w : List Token) → p w → q w)
      → Opened M more p ts → Opened M more q ts
  Opened-as more p q ts to o = record {
    before = o.before;
    operator = o.operator;
    parenthesis = o.parenthesis;
    after = o.after;
    same = o.same;
    deferrable = o.deferrable;
    opens = o.opens;
    level = o.level;
    inside = o.inside;
    front = to (o.before ++ o.operator ∷ []) o.front;
  }

  module _ (more : ℕ) where
    abbrev pub Ends : (List Token → Type 0) → List Token → Type 0
    Ends part ts = Level M false ts ⊎ Opened M more part ts

    ends_as : (p q : List Token → Type 0) (ts : List Token) → ((w : List Token) → p w → q w) → Ends p ts → Ends q ts
    ends_as p q ts to (inl h) = inl h
    ends_as p q ts to (inr o) = inr (Opened-as more p q ts to o)

    after : (p q : List Token → Type 0) (ts u v : List Token) → ts ≡ u ++ v
        → Level M false u × (ends false u ≡ false)
        → ((w : List Token) → p w → q (u ++ w)) → Ends p v → Ends q ts
    after p q ts u v e h to (inl k) = inl (Level-same false ts (u ++ v) e (Level-append false u v h.0 h.1 k))
    after p q ts u v e h to (inr o) = inr (Opened-after more p q ts u v e h.0 h.1 to o)

    both : (ts u v : List Token) → ts ≡ u ++ v → Level M false u × (ends false u ≡ false)
        → Level M false v × (ends false v ≡ false) → Level M false ts × (ends false ts ≡ false)
    both ts u v e h k = (
      Level-same false ts (u ++ v) e (Level-append false u v h.0 h.1 k.0),
      ap (ends false) e ∙ ends_false false u v h.1 k.1,
    )

    none : (ts : List Token) → ts ≡ [] → Level M false ts × (ends false ts ≡ false)
    none ts e = (Level-same false ts [] e (Level-nil false), ap (ends false) e)

    -- ---- items put together

    pub Tame-map : {A B : Type 0} {a : Item Token A} → (f : A → B) → Tame M more a → Tame M more (map f a)
    Tame-map f x = record { whole = λ ts y w. x.whole ts w.0 w.1; part = x.part }

    module _ {A B : Type 0} (a : Item Token A) (b : Item Token B) (x : Tame M more a) (y : Tame M more b) where
      seq_whole : (ts : List Token) (z : A × B) → (seq a b).whole ts z → Level M false ts × (ends false ts ≡ false)
      seq_whole ts z w = both ts w.0 w.1 w.2 (x.whole w.0 z.0 w.3) (y.whole w.1 z.1 w.4)

      seq_part : (ts : List Token) → (seq a b).part ts → Ends (seq a b).part ts
      seq_part ts (inl h) = ends_as a.part (seq a b).part ts (λ w k. inl k) (x.part ts h)
      seq_part ts (inr h) =
          after b.part (seq a b).part ts h.0 h.1 h.3 (x.whole h.0 h.2 h.4)
          (λ w k. inr (h.0, w, h.2, refl, h.4, k)) (y.part h.1 h.5)

    pub Tame-seq : {A B : Type 0} {a : Item Token A} {b : Item Token B} → Tame M more a → Tame M more b
        → Tame M more (seq a b)
    Tame-seq {a} {b} x y = record { whole = seq_whole a b x y; part = seq_part a b x y }

    pub Tame-lead : {A B : Type 0} {a : Item Token A} {b : Item Token B} → Tame M more a → Tame M more b
        → Tame M more (lead a b)
    Tame-lead {a} {b} x y = record { whole = seq_whole a b x y; part = seq_part a b x y }

    module _ {A B : Type 0} (a : Item Token A) (b : A → Item Token B) (x : Tame M more a)
        (y : (z : A) → Tame M more (b z)) where
      select_whole : (ts : List Token) (z : B) → (select a b).whole ts z → Level M false ts × (ends false ts ≡ false)
      select_whole ts z w = both ts w.0 w.1 w.3 (x.whole w.0 w.2 w.4) ((y w.2).whole w.1 z w.5)

      select_part : (ts : List Token) → (select a b).part ts → Ends (select a b).part ts
      select_part ts (inl h) = ends_as a.part (select a b).part ts (λ w k. inl k) (x.part ts h)
      select_part ts (inr h) =
          after (b h.2).part (select a b).part ts h.0 h.1 h.3 (x.whole h.0 h.2 h.4)
          (λ w k. inr (h.0, w, h.2, refl, h.4, k)) ((y h.2).part h.1 h.5)

    pub Tame-select : {A B : Type 0} {a : Item Token A} {b : A → Item Token B} → Tame M more a
        → ((z : A) → Tame M more (b z)) → Tame M more (select a b)
    Tame-select {a} {b} x y = record { whole = select_whole a b x y; part = select_part a b x y }

    module _ {A : Type 0} (a : Item Token A) (x : Tame M more a) where
      opt_whole_level : (ts : List Token) (o : Option A) → opt_whole a ts o → Level M false ts × (ends false ts ≡ false)
      opt_whole_level ts None w = none ts w
      opt_whole_level ts (Some y) w = x.whole ts y w

      many_whole_level : (ts : List Token) (ys : List A) → many_whole a ts ys
          → Level M false ts × (ends false ts ≡ false)
      many_whole_level ts [] w = none ts w
      many_whole_level ts (y ∷ ys) w = both ts w.0 w.1 w.2 (x.whole w.0 y w.3) (many_whole_level w.1 ys w.4)

      many_part_level : (ts : List Token) → (many a).part ts → Ends (many a).part ts
      many_part_level ts h =
          after a.part (many a).part ts h.0 h.1 h.3 (many_whole_level h.0 h.2 h.4)
          (λ w k. (h.0, w, h.2, refl, h.4, k)) (x.part h.1 h.5)

    pub Tame-opt : {A : Type 0} {a : Item Token A} → Tame M more a → Tame M more (opt a)
    Tame-opt {a} x = record { whole = opt_whole_level a x; part = x.part }

    pub Tame-many : {A : Type 0} {a : Item Token A} → Tame M more a → Tame M more (many a)
    Tame-many {a} x = record { whole = many_whole_level a x; part = many_part_level a x }

    module _ {A : Type 0} (a b : Item Token A) (x : Tame M more a) (y : Tame M more b) where
      alt_whole : (ts : List Token) (z : A) → (alt a b).whole ts z → Level M false ts × (ends false ts ≡ false)
      alt_whole ts z (inl w) = x.whole ts z w
      alt_whole ts z (inr w) = y.whole ts z w

      alt_part : (ts : List Token) → (alt a b).part ts → Ends (alt a b).part ts
      alt_part ts (inl h) = ends_as a.part (alt a b).part ts (λ w k. inl k) (x.part ts h)
      alt_part ts (inr h) = ends_as b.part (alt a b).part ts (λ w k. inr k) (y.part ts h)

    pub Tame-alt : {A : Type 0} {a b : Item Token A} → Tame M more a → Tame M more b → Tame M more (alt a b)
    Tame-alt {a} {b} x y = record { whole = alt_whole a b x y; part = alt_part a b x y }
