-- Instructions, and what stands in parentheses, leave the count of open parentheses as it was, or end inside them.
use Rattle.std.proofs.Common.{◌≡◌, ℕ, zero, suc, Bool, true, false, List, [], ◌∷◌, ◌++◌, Option, Some, None, refl}
use Rattle.std.proofs.Common.{◌⊎◌, inl, inr, sym, ap, subst, ◌∙◌}
use Rattle.std.specs.Option.{option_map, option_and_then}
use Rattle.iltypes.specs.declared.operator.Operator.{Operator}
use Rattle.iltypes.specs.Operators.{may_defer}
use Rattle.iltokens.specs.Items.{Item, is_in, one, one_whole, one_part, empty, select}
use Rattle.iltokens.specs.declared.keyword.Keyword.{Keyword}
use Rattle.iltokens.specs.declared.keyword.Keyword.TheVariants as words
use Rattle.iltokens.specs.declared.lexed.Delimiter.TheVariants as delimiters
use Rattle.iltokens.specs.declared.lexed.What.TheVariants as whats
use Rattle.iltext.specs.declared.roles.OperatorRole.{OperatorRole}
use Rattle.iltext.specs.declared.roles.OperatorRole.TheVariants as roles
use Rattle.iltext.specs.declared.token.TokenKind.{TokenKind}
use Rattle.iltext.specs.declared.token.TokenKind.TheVariants as kinds
use Rattle.iltext.specs.declared.token.Token.{Token}
use Rattle.iltext.specs.Roles.{role_of, role_of_word, may_nest, nesting, role_at, inner_role_of, inner_role_at}
use Rattle.iltext.specs.Roles.{is_inner}
use Rattle.iltext.specs.Terminals.{ended}
use Rattle.iltext.specs.Calls.{call}
use Rattle.iltext.specs.Instructions.{TextLine, operands, inner_operation, inner_of, content_of, applied, content}
use Rattle.iltext.specs.Faults.{is_deferrable, defers, open_after, open_after_all}
use Rattle.iltext.proofs.Counts.{AreInner, ends, MayNest}
use Rattle.iltext.proofs.Tame.{Any, Level, Level-nil, Below, Opened, Tame, Level-same, Tame-map, Tame-seq, Tame-many}
use Rattle.iltext.proofs.Tame.{Tame-alt}
use Rattle.iltext.proofs.Inner.{Quiet-operand, Quiet-symbol, Quiet-name, Quiet-bounds, Quiet-beginning}
use Rattle.iltext.proofs.Inner.{Quiet-line_break, Quiet-invocation}
use Rattle.iltext.proofs.Operators.{Enters, After, Tame-quiet, After-quiet, After-map, After-weaker, After-on_operand}
use Rattle.iltext.proofs.Operators.{After-on_either}

-- ---- an operator

-- the role and the place that an item reads of a token are the token's
pub record Reads (t : Token) (x : OperatorRole × ℕ) : Type 0 where
  pub role : role_of t.kind ≡ Some x.0
  pub place : t.from ≡ x.1

read_at : (o : Option OperatorRole) (at : ℕ) (x : OperatorRole × ℕ)
    → option_map (λ (role : OperatorRole). let y : OperatorRole × ℕ = (role, at) in y) o ≡ Some x
    → (o ≡ Some x.0) × (at ≡ x.1)
read_at None at x e = absurd cc
read_at (Some r) at x e =
    let same : (r, at) ≡ x = cc in
    (ap (λ (y : OperatorRole × ℕ). Some y.0) same, ap (λ (y : OperatorRole × ℕ). y.1) same)

pub reads_outer : (t : Token) (x : OperatorRole × ℕ) → role_at t ≡ Some x → Reads t x
reads_outer t x e = let r = read_at (role_of t.kind) t.from x e in record { role = r.0; place = r.1 }

nests : (o : Option OperatorRole) (r : OperatorRole) → option_and_then nesting o ≡ Some r
    → (o ≡ Some r) × (may_nest r ≡ true)
nests None r e = absurd cc
nests (Some s) r e = by (may_nest s) refl e
  where
    by : (b : Bool) → may_nest s ≡ b → nesting s ≡ Some r → (Some s ≡ Some r) × (may_nest r ≡ true)
    by true is e =
        let same : Some s ≡ Some r = sym (rw is refl) ∙ e in
        let its : s ≡ r = cc in (same, ap may_nest (sym its) ∙ is)
    by false is e = let no : nesting s ≡ None = rw is refl in absurd cc

pub record ReadsInner (t : Token) (x : OperatorRole × ℕ) : Type 0 where
  pub reads : Reads t x
  pub nests : may_nest x.0 ≡ true

pub reads_inner : (t : Token) (x : OperatorRole × ℕ) → inner_role_at t ≡ Some x → ReadsInner t x
reads_inner t x e =
    let r = read_at (option_and_then nesting (role_of t.kind)) t.from x e in
    let n = nests (role_of t.kind) x.0 r.0 in
    record { reads = record { role = n.0; place = r.1 }; nests = n.1 }

-- an operator is no parenthesis
operator_still : (m : ℕ) (k : TokenKind) (r : OperatorRole) → role_of k ≡ Some r → open_after false m k ≡ m
operator_still m (kinds.Good (whats.Delimiter delimiters.Close)) r e = absurd cc
operator_still m _ r e = refl

no_opening : (k : TokenKind) (r : OperatorRole) → role_of k ≡ Some r
    → ¬ (k ≡ kinds.Good (whats.Delimiter delimiters.Open))
no_opening k r e opens = let none : role_of k ≡ None = ap role_of opens in absurd cc

-- what is read as an operator in parentheses may stand there
word_nests : (w : Keyword) (r : OperatorRole) → option_and_then nesting (role_of_word w) ≡ Some r → is_inner w ≡ true
word_nests words.True r e = refl
word_nests words.False r e = refl
word_nests _ r e = ap is_in e

kind_nests : (k : TokenKind) (r : OperatorRole) → inner_role_of k ≡ Some r → MayNest k
kind_nests (kinds.Good (whats.Keyword w)) r e = inl (word_nests w r e)
kind_nests _ r e = tt

module _ (M : ℕ → Type 0) (more : ℕ) (class : Token → Option (OperatorRole × ℕ))
    (b : OperatorRole × ℕ → Item Token TextLine)
    (reads : (t : Token) (x : OperatorRole × ℕ) → class t ≡ Some x → Reads t x)
    (after : (t : Token) (x : OperatorRole × ℕ) → class t ≡ Some x → After M (is_deferrable (Some x.0)) more x.1 (b x))
    (nested : (t : Token) (x : OperatorRole × ℕ) → class t ≡ Some x → M 1 → MayNest t.kind)
  where
    abbrev head : Item Token TextLine
    head = select (one class) b

    -- an operator, and what leaves the count after it
    headed : (t : Token) (x : OperatorRole × ℕ) (v : List Token) → class t ≡ Some x
        → Level M (is_deferrable (Some x.0)) v → Level M false (t ∷ v)
    headed t x v is h =
        let r = reads t x is in
        record {
          count = λ m one.
              ap (λ (n : ℕ). open_after_all (defers t.kind) n v) (operator_still m t.kind x.0 r.role)
              ∙ ap (λ (o : Option OperatorRole). open_after_all (is_deferrable o) m v) r.role
              ∙ h.count m one;
          inner = λ one. (
            λ e. absurd (no_opening t.kind x.0 r.role e),
            nested t x is one,
            subst (λ (o : Option OperatorRole). AreInner (is_deferrable o) v) (sym r.role) (h.inner one),
          );
        }

    alone : (t : Token) (x : OperatorRole × ℕ) → class t ≡ Some x → Level M false (t ∷ [])
    alone t x is =
        let r = reads t x is in
        record {
          count = λ m one. operator_still m t.kind x.0 r.role;
          inner = λ one. (λ e. absurd (no_opening t.kind x.0 r.role e), nested t x is one, tt);
        }

    headed_ends : (t : Token) (x : OperatorRole × ℕ) (v : List Token) → Reads t x
        → ends (is_deferrable (Some x.0)) v ≡ false → ends false (t ∷ v) ≡ false
    headed_ends t x v r h = ap (λ (o : Option OperatorRole). ends (is_deferrable o) v) r.role ∙ h

    head_whole : (ts u v : List Token) (x : OperatorRole × ℕ) (z : TextLine) → ts ≡ u ++ v → one_whole class u x
        → (b x).whole v z → Level M false ts × (ends false ts ≡ false)
    head_whole ts [] v x z e wu wv = absurd wu
    head_whole ts (t ∷ []) v x z e wu wv =
        let h = (after t x wu).whole v z wv in
        let r = reads t x wu in (
          Level-same M false ts (t ∷ v) e (headed t x v wu h.0),
          ap (ends false) e ∙ headed_ends t x v r h.1,
        )
    head_whole ts (t ∷ s ∷ u) v x z e wu wv = absurd wu

    abbrev Fronts : List Token → Type 0
    Fronts ts = Level M false ts ⊎ Opened M more head.part ts

    entered : (ts v : List Token) (t : Token) (x : OperatorRole × ℕ) → ts ≡ t ∷ v → class t ≡ Some x
        → Level M (is_deferrable (Some x.0)) v ⊎ Enters (is_deferrable (Some x.0)) more x.1 v → Fronts ts
    entered ts v t x e is (inl h) = inl (Level-same M false ts (t ∷ v) e (headed t x v is h))
    entered ts v t x e is (inr n) =
        let r = reads t x is in
        inr (record {
          before = [];
          operator = t;
          parenthesis = n.parenthesis;
          after = n.after;
          same = e ∙ ap (λ (w : List Token). t ∷ w) n.same;
          deferrable = ap is_deferrable r.role ∙ n.deferred;
          opens = n.opens;
          level = alone t x is;
          inside = subst (λ (at : ℕ). Below more at n.after) (sym r.place) n.inside;
          front = inl (x, is);
        })

    head_after : (ts u v : List Token) (x : OperatorRole × ℕ) → ts ≡ u ++ v → one_whole class u x → (b x).part v
        → Fronts ts
    head_after ts [] v x e wu h = absurd wu
    head_after ts (t ∷ []) v x e wu h = entered ts v t x e wu ((after t x wu).part v h)
    head_after ts (t ∷ s ∷ u) v x e wu h = absurd wu

    head_one : (ts : List Token) → one_part class ts → Fronts ts
    head_one [] h = inl (Level-nil M false)
    head_one (t ∷ []) h = inl (alone t h.0 h.1)
    head_one (t ∷ s ∷ ts) h = absurd h.1

    head_part : (ts : List Token) → head.part ts → Fronts ts
    head_part ts (inl h) = head_one ts h
    head_part ts (inr h) = head_after ts h.0 h.1 h.2 h.3 h.4 h.5

    pub Tame-head : Tame M more head
    Tame-head = record { whole = λ ts z w. head_whole ts w.0 w.1 w.2 z w.3 w.4 w.5; part = head_part }

-- ---- what follows an operator, by what it does

After-empty : (M : ℕ → Type 0) (more at : ℕ) (x : TextLine) → After M false more at (empty {T = Token} x)
After-empty M more at x = record {
  whole = λ ts z w. (Level-same M false ts [] w.0 (Level-nil M false), ap (ends false) w.0);
  part = λ ts h. inl (Level-same M false ts [] h (Level-nil M false));
}

abbrev pub Applies : ℕ → Type 0
Applies more = (operator : Operator) (at : ℕ) → After Any (may_defer operator) more at (applied more operator at)

-- a call is no instruction in parentheses
pub After-operands : (M : ℕ → Type 0) (more : ℕ) → Applies more
    → (role : OperatorRole) (at : ℕ) → (may_nest role ≡ true) ⊎ After M false more at call
    → After M (is_deferrable (Some role)) more at (operands (applied more) role at)
After-operands M more applies (roles.Load negated) at k = After-map _ (After-quiet M more at Quiet-operand)
After-operands M more applies (roles.Apply operator) at k = After-weaker M (applies operator at)
After-operands M more applies (roles.Transform function) at k = After-empty M more at _
After-operands M more applies roles.Limit at k = After-map _ (After-quiet M more at Quiet-bounds)
After-operands M more applies (roles.Store negated) at k = After-map _ (After-quiet M more at Quiet-symbol)
After-operands M more applies roles.Set at k = After-map _ (After-quiet M more at Quiet-symbol)
After-operands M more applies roles.Reset at k = After-map _ (After-quiet M more at Quiet-symbol)
After-operands M more applies (roles.Jump condition) at k = After-map _ (After-quiet M more at Quiet-name)
After-operands M more applies (roles.Return condition) at k = After-empty M more at _
After-operands M more applies (roles.Call condition) at (inl e) = absurd cc
After-operands M more applies (roles.Call condition) at (inr h) = After-map _ h

-- ---- what stands in parentheses

pub Tame-ended : (M : ℕ → Type 0) (more : ℕ) {A : Type 0} {a : Item Token A} → Tame M more a → Tame M more (ended a)
Tame-ended M more x = Tame-map M more _ (Tame-seq M more x (Tame-quiet M more Quiet-line_break))

module _ (more : ℕ) (applies : Applies more) where
  Tame-inner : Tame Any more (inner_of (applied more))
  unfolding inner_of inner_operation
  Tame-inner =
      Tame-alt Any more
      (Tame-head Any more inner_role_at (λ x. operands (applied more) x.0 x.1) (λ t x e. (reads_inner t x e).reads)
      (λ t x e. After-operands Any more applies x.0 x.1 (inl (reads_inner t x e).nests))
      (λ t x e one. kind_nests t.kind x.0 (read_at (inner_role_of t.kind) t.from x e).0))
      (Tame-quiet Any more Quiet-invocation)

  Tame-inside : (at : ℕ) → Tame Any more (content more at)
  unfolding content_of
  Tame-inside at =
      Tame-map Any more _ (Tame-seq Any more (Tame-quiet Any more (Quiet-beginning at))
      (Tame-many Any more (Tame-ended Any more Tame-inner)))

pub applies : (more : ℕ) → Applies more
unfolding applied
applies zero operator at = After-on_operand Any (may_defer operator) 0 operator at
applies (suc more) operator at =
    After-on_either Any more at (Tame-inside more (applies more) at) operator (may_defer operator)

pub Tame-content : (more at : ℕ) → Tame Any more (content more at)
Tame-content more at = Tame-inside more (applies more) at
