-- What may follow a front, by how many parentheses are open there.
use Rattle.std.proofs.Common.{◌≡◌, ◌⊎◌, ℕ, zero, suc, ◌+◌, ◌<◌, ◌≤◌, Bool, true, false, List, [], ◌∷◌, ◌++◌, refl}
use Rattle.std.proofs.Common.{sym, ap}
use Rattle.std.proofs.Common.{inl, inr, subst, ◌∙◌, append_assoc, arith}
use Rattle.iltokens.specs.declared.keyword.Keyword.{Keyword}
use Rattle.iltokens.specs.declared.keyword.Keyword.TheVariants as words
use Rattle.iltokens.specs.declared.lexed.Delimiter.TheVariants as delimiters
use Rattle.iltokens.specs.declared.lexed.What.TheVariants as whats
use Rattle.iltext.specs.declared.token.TokenKind.{TokenKind}
use Rattle.iltext.specs.declared.token.TokenKind.TheVariants as kinds
use Rattle.iltext.specs.declared.token.Token.{Token}
use Rattle.iltext.specs.Roles.{is_inner}
use Rattle.iltext.specs.Instructions.{content}
use Rattle.iltext.specs.Faults.{defers, open_after, open_after_all}
use Rattle.iltext.specs.Texts.{text}
use Rattle.iltext.specs.Nested.{IsOpen, IsInside}
use Rattle.iltext.proofs.Counts.{AreInner, counted-append, delimiter_nests, ends, ends-append, inner-append}
use Rattle.iltext.proofs.Counts.{inner_last}
use Rattle.iltext.proofs.Counts.{MayNest, Opens}
use Rattle.iltext.proofs.Tame.{Any, Level, Opened}
use Rattle.iltext.proofs.InstructionCounts.{Tame-content}
use Rattle.iltext.proofs.Depths.{counted_as}
use Rattle.iltext.proofs.Texts.{count_is, has_depth}

-- ---- tokens of a content

-- behind a parenthesis
inner_behind : (M : ℕ → Type 0) (more : ℕ) (part : List Token → Type 0) (ts : List Token) (o : Opened M more part ts)
    → M 1 → AreInner false o.after → AreInner false ts
inner_behind M more part ts o one h =
    let front = inner_last false o.before o.operator (o.level.inner one) in
    subst (AreInner false) (sym o.same)
    (subst (AreInner false) (append_assoc o.before (o.operator ∷ []) (o.parenthesis ∷ o.after))
    (inner-append false (o.before ++ o.operator ∷ []) (o.parenthesis ∷ o.after) (o.level.inner one) (
      λ e. ends-append false o.before (o.operator ∷ []) ∙ o.deferrable,
      delimiter_nests o.parenthesis delimiters.Open o.opens,
      subst (λ (b : Bool). AreInner b o.after) (sym (ap defers o.opens)) h,
    )))

inner_zero : (at : ℕ) (ts : List Token) → Level Any false ts ⊎ Opened Any 0 (content 0 at).part ts → AreInner false ts
inner_zero at ts (inl h) = h.inner tt
inner_zero at ts (inr o) = absurd o.inside

inner_more : (more at : ℕ) (ts : List Token)
    → ((at : ℕ) (us : List Token) → (content more at).part us → AreInner false us)
    → Level Any false ts ⊎ Opened Any (suc more) (content (suc more) at).part ts → AreInner false ts
inner_more more at ts below (inl h) = h.inner tt
inner_more more at ts below (inr o) =
    inner_behind Any (suc more) (content (suc more) at).part ts o tt (below o.operator.from o.after o.inside)

content_inner : (more at : ℕ) (ts : List Token) → (content more at).part ts → AreInner false ts
content_inner zero at ts h = inner_zero at ts ((Tame-content 0 at).part ts h)
content_inner (suc more) at ts h = inner_more more at ts (content_inner more) ((Tame-content (suc more) at).part ts h)

-- ---- the last token

nothing_before : (v : List Token) (s : Token) → ¬ ([] ≡ v ++ s ∷ [])
nothing_before [] s e = cc
nothing_before (x ∷ v) s e = cc

-- of two ways to write tokens by their last one
record Same (u v : List Token) (t s : Token) : Type 0 where
  pub front : u ≡ v
  pub last : t ≡ s

last_same : (u v : List Token) (t s : Token) → u ++ t ∷ [] ≡ v ++ s ∷ [] → Same u v t s
last_same [] [] t s e = record { front = refl; last = cc }
last_same [] (y ∷ v) t s e = absurd (nothing_before v s cc)
last_same (x ∷ u) [] t s e =
    absurd (nothing_before u t (let same : u ++ t ∷ [] ≡ [] = cc in sym same))
last_same (x ∷ u) (y ∷ v) t s e =
    let rest = last_same u v t s cc in
    let head : x ≡ y = cc in
    record {
      front = ap (λ (w : List Token). x ∷ w) rest.front ∙ ap (λ (z : Token). z ∷ v) head;
      last = rest.last;
    }

record Last (ts : List Token) : Type 0 where
  pub front : List Token
  pub token : Token
  pub same : ts ≡ front ++ token ∷ []

last_of : (t : Token) (ts : List Token) → Last (t ∷ ts)
last_of t [] = record { front = []; token = t; same = refl }
last_of t (s ∷ ts) =
    let rest = last_of s ts in
    record { front = t ∷ rest.front; token = rest.token; same = ap (λ (w : List Token). t ∷ w) rest.same }

-- where one is open, the last token is the `(`, or a token of the content
record IsOpening (front : List Token) (t : Token) : Type 0 where
  pub after : ends false front ≡ true
  pub opens : Opens t

record IsContent (front : List Token) (t : Token) : Type 0 where
  pub after : Opens t → ends false front ≡ true
  pub nests : MayNest t.kind

last_open : (front : List Token) (t : Token) → IsOpen (front ++ t ∷ []) → IsOpening front t ⊎ IsContent front t
last_open front t o = by o.after o.same (content_inner o.more o.operator.from o.after o.inside)
  where
    ends_operator : ends false (o.before ++ o.operator ∷ []) ≡ true
    ends_operator = ends-append false o.before (o.operator ∷ []) ∙ counted_as (front ++ t ∷ []) o

    by : (after : List Token) → front ++ t ∷ [] ≡ o.before ++ o.operator ∷ o.parenthesis ∷ after → AreInner false after
        → IsOpening front t ⊎ IsContent front t
    by [] e h =
        let s =
        last_same front (o.before ++ o.operator ∷ []) t o.parenthesis
        (e ∙ sym (append_assoc o.before (o.operator ∷ []) (o.parenthesis ∷ []))) in
        inl (record {
          after = ap (ends false) s.front ∙ ends_operator;
          opens = ap (λ (x : Token). x.kind) s.last ∙ o.opens;
        })
    by (a ∷ after) e h =
        let l = last_of a after in
        let its : List Token = o.before ++ o.operator ∷ o.parenthesis ∷ l.front in
        let whole : front ++ t ∷ [] ≡ its ++ l.token ∷ [] =
        e ∙ ap (λ (w : List Token). o.before ++ o.operator ∷ o.parenthesis ∷ w) l.same
        ∙ sym (append_assoc o.before (o.operator ∷ o.parenthesis ∷ l.front) (l.token ∷ [])) in
        let s = last_same front its t l.token whole in
        let inner = inner_last false l.front l.token (subst (AreInner false) l.same h) in
        inr (record {
          after = λ opens.
              ap (ends false) s.front
              ∙ ends-append false o.before (o.operator ∷ o.parenthesis ∷ l.front)
              ∙ ap (λ (k : TokenKind). ends (defers k) l.front) o.opens
              ∙ inner.0 (ap (λ (x : Token). x.kind) (sym s.last) ∙ opens);
          nests = subst (λ (x : Token). MayNest x.kind) (sym s.last) inner.1;
        })

-- ---- `(`

-- where one is open, it stands right after an operator that may be deferred
after_operator : (front : List Token) (p : Token) → Opens p → IsOpening front p ⊎ IsContent front p
    → ends false front ≡ true
after_operator front p opens (inl h) = h.after
after_operator front p opens (inr h) = h.after opens

counts : (front : List Token) (p : Token) → Opens p
    → open_after_all false 0 (front ++ p ∷ []) ≡ open_after (ends false front) (open_after_all false 0 front)
    (kinds.Good (whats.Delimiter delimiters.Open))
counts front p opens =
    counted-append false 0 front (p ∷ [])
    ∙ ap (open_after (ends false front) (open_after_all false 0 front)) opens

opening_more : (b : Bool) (n : ℕ) → n ≤ open_after b n (kinds.Good (whats.Delimiter delimiters.Open))
opening_more true n = omega arith
opening_more false n = omega arith

-- where one is open it opens another
module _ (front : List Token) (p : Token) (opens : Opens p) where
  adds_one : (depth : ℕ) → IsInside (suc depth) (front ++ p ∷ [])
      → open_after_all false 0 (front ++ p ∷ []) ≡ open_after_all false 0 front + 1
  adds_one depth inside =
      counts front p opens
      ∙ ap (λ (b : Bool). open_after b (open_after_all false 0 front) (kinds.Good (whats.Delimiter delimiters.Open)))
      (after_operator front p opens (last_open front p inside.0))

  none_yet : IsInside 0 (front ++ p ∷ []) → open_after_all false 0 front ≡ 0
  none_yet inside =
      let count = sym (counts front p opens) ∙ count_is 0 (front ++ p ∷ []) inside in
      let low = opening_more (ends false front) (open_after_all false 0 front) in
      omega arith

pub no_deeper : (front : List Token) (p : Token) → text.part (front ++ p ∷ []) → Opens p
    → open_after_all false 0 front < 32
no_deeper front p h opens = let its = has_depth (front ++ p ∷ []) h in by its.0 its.1 its.2
  where
    by : (depth : ℕ) → depth ≤ 32 → IsInside depth (front ++ p ∷ []) → open_after_all false 0 front < 32
    by zero low inside = let none = none_yet front p opens inside in omega arith
    by (suc depth) low inside =
        let one = adds_one front p opens depth inside in
        let count = count_is (suc depth) (front ++ p ∷ []) inside in
        omega arith

pub one_more : (front : List Token) (p : Token) → text.part (front ++ p ∷ []) → Opens p
    → 0 < open_after_all false 0 front → open_after_all false 0 (front ++ p ∷ []) ≡ open_after_all false 0 front + 1
one_more front p h opens some = let its = has_depth (front ++ p ∷ []) h in by its.0 its.2
  where
    by : (depth : ℕ) → IsInside depth (front ++ p ∷ [])
        → open_after_all false 0 (front ++ p ∷ []) ≡ open_after_all false 0 front + 1
    by zero inside = let none = none_yet front p opens inside in absurd (omega arith)
    by (suc depth) inside = adds_one front p opens depth inside

-- ---- words

word_still : (w : Keyword) (b : Bool) (n : ℕ) → open_after b n (kinds.Good (whats.Keyword w)) ≡ n
word_still w true n = refl
word_still w false n = refl

opens_not : (w : Keyword) (t : Token) → t.kind ≡ kinds.Good (whats.Keyword w) → ¬ Opens t
opens_not w t e f =
    let both : kinds.Good (whats.Keyword w) ≡ kinds.Good (whats.Delimiter delimiters.Open) = sym e ∙ f in absurd cc

word_nests : (front : List Token) (t : Token) (w : Keyword) → t.kind ≡ kinds.Good (whats.Keyword w)
    → IsOpening front t ⊎ IsContent front t → (is_inner w ≡ true) ⊎ (w ≡ words.R)
word_nests front t w e (inl h) = absurd (opens_not w t e h.opens)
word_nests front t w e (inr h) = subst MayNest e h.nests

pub only_inner : (front : List Token) (t : Token) (w : Keyword) → text.part (front ++ t ∷ [])
    → t.kind ≡ kinds.Good (whats.Keyword w) → 0 < open_after_all false 0 front
    → (is_inner w ≡ true) ⊎ (w ≡ words.R)
only_inner front t w h e some = let its = has_depth (front ++ t ∷ []) h in by its.0 its.2
  where
    count : open_after_all false 0 (front ++ t ∷ []) ≡ open_after_all false 0 front
    count =
        counted-append false 0 front (t ∷ [])
        ∙ ap (open_after (ends false front) (open_after_all false 0 front)) e
        ∙ word_still w (ends false front) (open_after_all false 0 front)

    by : (depth : ℕ) → IsInside depth (front ++ t ∷ []) → (is_inner w ≡ true) ⊎ (w ≡ words.R)
    by zero inside =
        let none : open_after_all false 0 front ≡ 0 = sym count ∙ count_is 0 (front ++ t ∷ []) inside in
        absurd (omega arith)
    by (suc depth) inside = word_nests front t w e (last_open front t inside.0)
