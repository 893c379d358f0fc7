-- What follows an operator leaves the count of open parentheses as it was, or ends inside parentheses.
use Rattle.std.proofs.Common.{◌≡◌, ℕ, suc, ◌+◌, Bool, true, false, List, [], ◌∷◌, ◌++◌, refl}
use Rattle.std.proofs.Common.{◌⊎◌, inl, inr, sym, ap, subst, ◌∙◌}
use Rattle.std.proofs.lemmas.List.{append-nil}
use Rattle.std.specs.List.{AllByRecursion}
use Rattle.iltypes.specs.declared.operator.Operator.{Operator}
use Rattle.iltokens.specs.Items.{Item, map, seq}
use Rattle.iltokens.proofs.Laws.{Solid}
use Rattle.iltokens.specs.declared.lexed.Delimiter.TheVariants as delimiters
use Rattle.iltext.specs.declared.token.Token.{Token}
use Rattle.iltext.specs.Terminals.{delimiter, closing, line_break, ended}
use Rattle.iltext.specs.Instructions.{TextLine, on_operand, on_content, on_either, beginning, inner_operation}
use Rattle.iltext.specs.Instructions.{inner_of, content_of, applied, content}
use Rattle.iltext.proofs.OperandLaws.{Firm-operand}
use Rattle.iltext.specs.Faults.{defers, open_after_all}
use Rattle.iltext.proofs.Counts.{AreInner, closed, Closes, closes_none, counted-append, delimiter_nests, ends}
use Rattle.iltext.proofs.Counts.{ends_last, inner-append, no_operator, opened, Opens}
use Rattle.iltext.proofs.Tame.{Any, Level, Level-nil, Below, Tame}
use Rattle.iltext.proofs.Tokens.{Holds}
use Rattle.iltext.proofs.Inner.{Quiet, quiet_none, is_delimiter, is_close, Quiet-operand}

-- the tokens are `(` after an operator that may be deferred, and a front of the content of the parentheses
pub record Enters (before : Bool) (more at : ℕ) (ts : List Token) : Type 0 where
  pub deferred : before ≡ true
  pub parenthesis : Token
  pub after : List Token
  pub same : ts ≡ parenthesis ∷ after
  pub opens : Opens parenthesis
  pub inside : Below more at after

-- an item after an operator, which may be deferred or not
pub record After (M : ℕ → Type 0) (before : Bool) (more at : ℕ) {A : Type 0} (a : Item Token A) : Type 0 where
  pub whole : (ts : List Token) (x : A) → a.whole ts x → Level M before ts × (ends before ts ≡ false)
  pub part : (ts : List Token) → a.part ts → Level M before ts ⊎ Enters before more at ts

-- ---- no parentheses

level_quiet : (M : ℕ → Type 0) (b : Bool) (ts : List Token) → AllByRecursion Quiet ts → Level M b ts
level_quiet M b [] h = Level-nil M b
level_quiet M b (t ∷ ts) h =
    let rest = level_quiet M (defers t.kind) ts h.1 in
    record {
      count = λ m is. ap (λ (n : ℕ). open_after_all (defers t.kind) n ts) (h.0.count b m) ∙ rest.count m is;
      inner = λ one. (λ opens. absurd (quiet_none t.kind h.0 opens), h.0.nests, rest.inner one);
    }

ends_quiet : (ts : List Token) → AllByRecursion Quiet ts → ends false ts ≡ false
ends_quiet [] h = refl
ends_quiet (t ∷ ts) h = ap (λ (b : Bool). ends b ts) h.0.plain ∙ ends_quiet ts h.1

ends_some : (b : Bool) (t : Token) (ts : List Token) → AllByRecursion Quiet (t ∷ ts) → ends b (t ∷ ts) ≡ false
ends_some b t ts h = ap (λ (c : Bool). ends c ts) h.0.plain ∙ ends_quiet ts h.1

pub Tame-quiet : (M : ℕ → Type 0) (more : ℕ) {A : Type 0} {a : Item Token A} → Holds Quiet a → Tame M more a
Tame-quiet M more x = record {
  whole = λ ts z w. (level_quiet M false ts (x.whole ts z w), ends_quiet ts (x.whole ts z w));
  part = λ ts h. inl (level_quiet M false ts (x.part ts h));
}

pub After-quiet : (M : ℕ → Type 0) (more at : ℕ) {A : Type 0} {a : Item Token A} → Holds Quiet a
    → After M false more at a
After-quiet M more at x = record {
  whole = λ ts z w. (level_quiet M false ts (x.whole ts z w), ends_quiet ts (x.whole ts z w));
  part = λ ts h. inl (level_quiet M false ts (x.part ts h));
}

module _ (M : ℕ → Type 0) (b : Bool) {A : Type 0} (a : Item Token A) (x : Holds Quiet a) (solid : Solid Token A a) where
  some_whole : (ts : List Token) (z : A) → a.whole ts z → Level M b ts × (ends b ts ≡ false)
  some_whole [] z w = absurd (solid.none z w)
  some_whole (t ∷ ts) z w =
      (level_quiet M b (t ∷ ts) (x.whole (t ∷ ts) z w), ends_some b t ts (x.whole (t ∷ ts) z w))

-- an item that is never nothing
After-some : (M : ℕ → Type 0) (b : Bool) (more at : ℕ) {A : Type 0} {a : Item Token A} → Holds Quiet a
    → Solid Token A a → After M b more at a
After-some M b more at {a} x solid = record {
  whole = some_whole M b a x solid;
  part = λ ts h. inl (level_quiet M b ts (x.part ts h));
}

pub After-map : {M : ℕ → Type 0} {b : Bool} {more at : ℕ} {A B : Type 0} {a : Item Token A} (f : A → B)
    → After M b more at a → After M b more at (map f a)
After-map f x = record { whole = λ ts y w. x.whole ts w.0 w.1; part = x.part }

pub After-weaker : (M : ℕ → Type 0) {b : Bool} {more at : ℕ} {A : Type 0} {a : Item Token A} → After Any b more at a
    → After M b more at a
After-weaker M {b} {more} {at} {a} x = record { whole = all; part = front }
  where
    weaker : (ts : List Token) → Level Any b ts → Level M b ts
    weaker ts h = record { count = λ m is. h.count m tt; inner = λ one. h.inner tt }

    all : (ts : List Token) (z : _) → a.whole ts z → Level M b ts × (ends b ts ≡ false)
    all ts z w = (weaker ts (x.whole ts z w).0, (x.whole ts z w).1)

    either : (ts : List Token) → Level Any b ts ⊎ Enters b more at ts → Level M b ts ⊎ Enters b more at ts
    either ts (inl h) = inl (weaker ts h)
    either ts (inr e) = inr e

    front : (ts : List Token) → a.part ts → Level M b ts ⊎ Enters b more at ts
    front ts h = either ts (x.part ts h)

-- ---- parentheses

-- nothing is a front of a content, and what is a whole one is a front
content_none : (more at : ℕ) → (content more at).part []
unfolding content_of beginning line_break delimiter
content_none more at = inl (inl (inl (inl tt)))

inner_none : (more : ℕ) → (ended (inner_of (applied more))).part []
unfolding inner_of inner_operation
inner_none more = inl (inl (inl tt))

content_front : (more at : ℕ) (ts : List Token) (x : _) → (content more at).whole ts x → (content more at).part ts
unfolding content_of
content_front more at ts x w =
    inr (w.1.0, w.1.1, w.0.0, w.1.2, w.1.3, (w.1.1, [], w.0.1, sym (append-nil w.1.1), w.1.4, inner_none more))

module _ (M : ℕ → Type 0) (more at : ℕ) (inside : Tame Any more (content more at)) (operator : Operator) where
  abbrev Ends : List Token → Type 0
  Ends ts = Level M true ts × (ends true ts ≡ false)

  -- "(" content ")"
  around : (p t : Token) (c : List Token) → Opens p → Closes t → Level Any false c × (ends false c ≡ false)
      → Ends (p ∷ (c ++ t ∷ []))
  around p t c opens closes h = (
    record {
      count = λ m is.
          opened m p (c ++ t ∷ []) opens
          ∙ counted-append false (m + 1) c (t ∷ [])
          ∙ ap (λ (b : Bool). open_after_all b (open_after_all false (m + 1) c) (t ∷ [])) h.1
          ∙ ap (λ (n : ℕ). open_after_all false n (t ∷ [])) (h.0.count (m + 1) tt)
          ∙ closed m t closes;
      inner = λ one. (
        λ e. refl,
        delimiter_nests p delimiters.Open opens,
        subst (λ (b : Bool). AreInner b (c ++ t ∷ [])) (sym (ap defers opens))
            (inner-append false c (t ∷ []) (h.0.inner tt)
            (λ e. absurd (closes_none t closes e), delimiter_nests t delimiters.Close closes, tt)),
      );
    },
    ends_last (defers p.kind) c t ∙ no_operator t closes,
  )

  closing_whole : (p : Token) (c q : List Token) (x : _) (y : ℕ) → Opens p → (content more at).whole c x
      → closing.whole q y → Ends (p ∷ (c ++ q))
  unfolding closing
  closing_whole p c [] x y opens wc wq = absurd wq
  closing_whole p c (t ∷ []) x y opens wc wq = around p t c opens (is_close t.kind t.from y wq) (inside.whole c x wc)
  closing_whole p c (t ∷ u ∷ q) x y opens wc wq = absurd wq

  opening_whole : (ts u v : List Token) (s : _) (x : _ × ℕ) → ts ≡ u ++ v → (delimiter delimiters.Open).whole u s
      → (seq (content more at) closing).whole v x → Ends ts
  unfolding delimiter
  opening_whole ts [] v s x e wu wv = absurd wu
  opening_whole ts (p ∷ []) v s x e wu wv =
      subst Ends (sym (e ∙ ap (λ (w : List Token). p ∷ w) wv.2))
      (closing_whole p wv.0 wv.1 x.0 x.1 (is_delimiter delimiters.Open p.kind s wu) wv.3 wv.4)
  opening_whole ts (p ∷ t ∷ u) v s x e wu wv = absurd wu

  on_content_whole : (ts : List Token) (z : TextLine) → (on_content (content more) operator at).whole ts z → Ends ts
  unfolding on_content
  on_content_whole ts z w = opening_whole ts w.1.0 w.1.1 w.0.0 w.0.1 w.1.2 w.1.3 w.1.4

  enters : (ts : List Token) (p : Token) (v : List Token) → ts ≡ p ∷ v → Opens p → (content more at).part v
      → Enters true (suc more) at ts
  enters ts p v e opens h = record {
    deferred = refl;
    parenthesis = p;
    after = v;
    same = e;
    opens = opens;
    inside = h;
  }

  abbrev Fronts : List Token → Type 0
  Fronts ts = Level M true ts ⊎ Enters true (suc more) at ts

  closing_part : (ts : List Token) (p : Token) (v c q : List Token) (x : _) → ts ≡ p ∷ v → Opens p → v ≡ c ++ q
      → (content more at).whole c x → closing.part q → Fronts ts
  unfolding closing
  closing_part ts p v c [] x e opens e2 wc h =
      inr (enters ts p v e opens
      (subst (λ (w : List Token). (content more at).part w) (sym (e2 ∙ append-nil c)) (content_front more at c x wc)))
  closing_part ts p v c (t ∷ []) x e opens e2 wc h =
      inl (subst (Level M true) (sym (e ∙ ap (λ (w : List Token). p ∷ w) e2))
      (around p t c opens (is_close t.kind t.from h.0 h.1) (inside.whole c x wc)).0)
  closing_part ts p v c (t ∷ u ∷ q) x e opens e2 wc h = absurd h.1

  opening_part : (ts u v : List Token) (s : _) → ts ≡ u ++ v → (delimiter delimiters.Open).whole u s
      → (seq (content more at) closing).part v → Fronts ts
  unfolding delimiter
  opening_part ts [] v s e wu h = absurd wu
  opening_part ts (p ∷ []) v s e wu (inl h) = inr (enters ts p v e (is_delimiter delimiters.Open p.kind s wu) h)
  opening_part ts (p ∷ []) v s e wu (inr h) =
      closing_part ts p v h.0 h.1 h.2 e (is_delimiter delimiters.Open p.kind s wu) h.3 h.4 h.5
  opening_part ts (p ∷ t ∷ u) v s e wu h = absurd wu

  open_part : (ts : List Token) → (delimiter delimiters.Open).part ts → Fronts ts
  unfolding delimiter
  open_part [] h = inl (Level-nil M true)
  open_part (p ∷ []) h =
      inr (enters (p ∷ []) p [] refl (is_delimiter delimiters.Open p.kind h.0 h.1) (content_none more at))
  open_part (p ∷ t ∷ ts) h = absurd h.1

  on_content_part : (ts : List Token) → (on_content (content more) operator at).part ts → Fronts ts
  unfolding on_content
  on_content_part ts (inl h) = open_part ts h
  on_content_part ts (inr h) = opening_part ts h.0 h.1 h.2 h.3 h.4 h.5

-- ---- what follows an operator that is applied

pub After-on_operand : (M : ℕ → Type 0) (b : Bool) (more : ℕ) (operator : Operator) (at : ℕ)
    → After M b more at (on_operand operator at)
unfolding on_operand
After-on_operand M b more operator at = After-map _ (After-some M b more at Quiet-operand Firm-operand.solid)

module _ (M : ℕ → Type 0) (more at : ℕ) (inside : Tame Any more (content more at)) (operator : Operator) where
  either_whole : (ts : List Token) (z : TextLine) → (on_either true (content more) operator at).whole ts z
      → Level M true ts × (ends true ts ≡ false)
  either_whole ts z (inl w) = on_content_whole M more at inside operator ts z w
  either_whole ts z (inr w) = (After-on_operand M true (suc more) operator at).whole ts z w

  either_part : (ts : List Token) → (on_either true (content more) operator at).part ts
      → Level M true ts ⊎ Enters true (suc more) at ts
  either_part ts (inl h) = on_content_part M more at inside operator ts h
  either_part ts (inr h) = (After-on_operand M true (suc more) operator at).part ts h

  pub After-on_either : (may : Bool) → After M may (suc more) at (on_either may (content more) operator at)
  After-on_either true = record { whole = either_whole; part = either_part }
  After-on_either false = After-on_operand M false (suc more) operator at
