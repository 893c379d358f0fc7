-- How deep inside parentheses a front of their content ends, and how many that adds to the count.
use Rattle.std.proofs.Common.{◌≡◌, ◌⊎◌, ℕ, zero, suc, ◌+◌, ◌≤◌, true, false, List, [], ◌∷◌, ◌++◌, Option, Some, refl}
use Rattle.std.proofs.Common.{sym, ap, inl, inr, ◌∙◌, append_assoc, arith}
use Rattle.iltypes.specs.declared.operator.Operator.{Operator}
use Rattle.iltypes.specs.Operators.{may_defer}
use Rattle.iltext.specs.declared.roles.OperatorRole.{OperatorRole}
use Rattle.iltext.specs.declared.roles.OperatorRole.TheVariants as roles
use Rattle.iltext.specs.declared.token.Token.{Token}
use Rattle.iltext.specs.Roles.{role_of}
use Rattle.iltext.specs.Instructions.{content}
use Rattle.iltext.specs.Faults.{is_deferrable, defers, open_after_all}
use Rattle.iltext.specs.Nested.{IsOpen}
use Rattle.iltext.proofs.Counts.{Opens, opened_after}
use Rattle.iltext.proofs.Tame.{Any, Level, Opened}
use Rattle.iltext.proofs.InstructionCounts.{Tame-content}

-- where tokens end inside a parenthesis, the count goes on behind it with one more
pub opened_count : (M : ℕ → Type 0) (more : ℕ) (part : List Token → Type 0) (ts : List Token)
    (o : Opened M more part ts) (m : ℕ) → M m → open_after_all false m ts ≡ open_after_all false (m + 1) o.after
opened_count M more part ts o m is =
    ap (open_after_all false m) o.same
    ∙ opened_after false m o.before o.operator o.parenthesis o.after o.deferrable o.opens
    ∙ ap (λ (n : ℕ). open_after_all false (n + 1) o.after) (o.level.count m is)

-- ---- an open parenthesis

-- an operator that may be deferred, as the count sees it and as the grammar does
record Deferrable (o : Option OperatorRole) : Type 0 where
  pub applied : Operator
  pub applies : o ≡ Some (roles.Apply applied)
  pub deferrable : may_defer applied ≡ true

of_role : (o : Option OperatorRole) → is_deferrable o ≡ true → Deferrable o
of_role (Some (roles.Apply operator)) e = record { applied = operator; applies = refl; deferrable = e }
of_role _ e = absurd cc

pub counted_as : (ts : List Token) (o : IsOpen ts) → defers o.operator.kind ≡ true
counted_as ts o = ap is_deferrable o.applies ∙ o.deferrable

abbrev open_at : (ts before : List Token) (o p : Token) (after : List Token) (more : ℕ)
    → ts ≡ before ++ o ∷ p ∷ after → defers o.kind ≡ true → Opens p → (content more o.from).part after → IsOpen ts
open_at ts before o p after more same defers opens inside = record {
  before = before;
  operator = o;
  parenthesis = p;
  after = after;
  same = same;
  applied = (of_role (role_of o.kind) defers).applied;
  applies = (of_role (role_of o.kind) defers).applies;
  deferrable = (of_role (role_of o.kind) defers).deferrable;
  opens = opens;
  more = more;
  inside = inside;
}

pub is_open : (M : ℕ → Type 0) (more : ℕ) (part : List Token → Type 0) (ts : List Token) → Opened M more part ts
    → IsOpen ts
is_open M zero part ts o = absurd o.inside
is_open M (suc more) part ts o =
    open_at ts o.before o.operator o.parenthesis o.after more o.same o.deferrable o.opens o.inside

-- ---- a front of a content adds what is open at its end

abbrev Adds : ℕ → List Token → Type 0
Adds more ts = (d : ℕ) × (d ≤ more) × ((m : ℕ) → open_after_all false m ts ≡ m + d)

adds_none : (more : ℕ) (ts : List Token) → Level Any false ts → Adds more ts
adds_none more ts h = (0, omega arith, λ m. let same : m ≡ m + 0 = omega arith in h.count m tt ∙ same)

adds_zero : (at : ℕ) (ts : List Token) → Level Any false ts ⊎ Opened Any 0 (content 0 at).part ts → Adds 0 ts
adds_zero at ts (inl h) = adds_none 0 ts h
adds_zero at ts (inr o) = absurd o.inside

adds_more : (more at : ℕ) (ts : List Token) → ((at : ℕ) (ts : List Token) → (content more at).part ts → Adds more ts)
    → Level Any false ts ⊎ Opened Any (suc more) (content (suc more) at).part ts → Adds (suc more) ts
adds_more more at ts below (inl h) = adds_none (suc more) ts h
adds_more more at ts below (inr o) =
    let its = below o.operator.from o.after o.inside in
    let low : its.0 ≤ more = its.1 in (
      suc its.0,
      omega arith,
      λ m.
          let same : m + 1 + its.0 ≡ m + suc its.0 = omega arith in
          opened_count Any (suc more) (content (suc more) at).part ts o m tt ∙ its.2 (m + 1) ∙ same,
    )

content_adds : (more at : ℕ) (ts : List Token) → (content more at).part ts → Adds more ts
content_adds zero at ts h = adds_zero at ts ((Tame-content 0 at).part ts h)
content_adds (suc more) at ts h = adds_more more at ts (content_adds more) ((Tame-content (suc more) at).part ts h)

-- where the count is 0, none is open
pub none_open : (ts : List Token) → open_after_all false 0 ts ≡ 0 → ¬ IsOpen ts
none_open ts e o =
    let its = content_adds o.more o.operator.from o.after o.inside in
    let k : ℕ = open_after_all false 0 (o.before ++ o.operator ∷ []) in
    let count : open_after_all false 0 ts ≡ k + 1 + its.0 =
    ap (open_after_all false 0) o.same
    ∙ opened_after false 0 o.before o.operator o.parenthesis o.after (counted_as ts o) o.opens
    ∙ its.2 (k + 1) in
    let none : 0 ≡ k + 1 + its.0 = sym e ∙ count in
    omega arith

-- ---- depths

-- as `IsInside`, of fronts of any kind, of which so many parentheses may be open
abbrev pub Deep : (List Token → Type 0) → ℕ → ℕ → List Token → Type 0
Deep part most zero ts = part ts × ¬ IsOpen ts
Deep part most (suc depth) ts =
    (last : IsOpen ts) × (last.more + suc depth ≡ most)
    × Deep part most depth (last.before ++ last.operator ∷ []) × ¬ IsOpen last.after

-- behind a parenthesis all is one deeper
pub deeper : (part : List Token → Type 0) (more d : ℕ) (before : List Token) (o p : Token) (after ts : List Token)
    → ts ≡ before ++ o ∷ p ∷ after → defers o.kind ≡ true → Opens p → part (before ++ o ∷ [])
    → ¬ IsOpen (before ++ o ∷ []) → Deep (content more o.from).part more d after → Deep part (suc more) (suc d) ts
deeper part more zero before o p after ts e deferrable opens front none h = (
  open_at ts before o p after more e deferrable opens h.0,
  omega arith,
  (front, none),
  h.1,
)
deeper part more (suc d) before o p after ts e deferrable opens front none h =
    let last = h.0 in
    let left : last.more + suc d ≡ more = h.1 in (
      record {
        before = before ++ o ∷ p ∷ last.before;
        operator = last.operator;
        parenthesis = last.parenthesis;
        after = last.after;
        same = e ∙ ap (λ (w : List Token). before ++ o ∷ p ∷ w) last.same
            ∙ sym (append_assoc before (o ∷ p ∷ last.before) (last.operator ∷ last.parenthesis ∷ last.after));
        applied = last.applied;
        applies = last.applies;
        deferrable = last.deferrable;
        opens = last.opens;
        more = last.more;
        inside = last.inside;
      },
      omega arith,
      deeper part more d before o p (last.before ++ last.operator ∷ [])
          ((before ++ o ∷ p ∷ last.before) ++ last.operator ∷ [])
          (append_assoc before (o ∷ p ∷ last.before) (last.operator ∷ [])) deferrable opens front none h.2,
      h.3,
    )

abbrev pub Depth : (List Token → Type 0) → ℕ → List Token → Type 0
Depth part most ts = (d : ℕ) × (d ≤ most) × Deep part most d ts

-- a front that leaves a count as it was, or ends inside a parenthesis, has a depth
module _ (M : ℕ → Type 0) (zero_is : M 0) (part : List Token → Type 0) (ts : List Token) (h : part ts) where
  depth_level : (most : ℕ) → Level M false ts → Depth part most ts
  depth_level most level = (0, omega arith, (h, none_open ts (level.count 0 zero_is)))

  depth_opened : (more : ℕ)
      → ((at : ℕ) (us : List Token) → (content more at).part us → Depth (content more at).part more us)
      → Opened M (suc more) part ts → Depth part (suc more) ts
  depth_opened more below o =
      let its = below o.operator.from o.after o.inside in
      let low : its.0 ≤ more = its.1 in (
        suc its.0,
        omega arith,
        deeper part more its.0 o.before o.operator o.parenthesis o.after ts o.same o.deferrable o.opens o.front
            (none_open (o.before ++ o.operator ∷ []) (o.level.count 0 zero_is)) its.2,
      )

  pub depth_zero : Level M false ts ⊎ Opened M 0 part ts → Depth part 0 ts
  depth_zero (inl level) = depth_level 0 level
  depth_zero (inr o) = absurd o.inside

  pub depth_more : (more : ℕ)
      → ((at : ℕ) (us : List Token) → (content more at).part us → Depth (content more at).part more us)
      → Level M false ts ⊎ Opened M (suc more) part ts → Depth part (suc more) ts
  depth_more more below (inl level) = depth_level (suc more) level
  depth_more more below (inr o) = depth_opened more below o

pub content_depth : (more at : ℕ) (ts : List Token) → (content more at).part ts → Depth (content more at).part more ts
content_depth zero at ts h = depth_zero Any tt (content 0 at).part ts h ((Tame-content 0 at).part ts h)
content_depth (suc more) at ts h =
    depth_more Any tt (content (suc more) at).part ts h more (content_depth more)
    ((Tame-content (suc more) at).part ts h)
