-- A table of a code, filled in by one word more.
use Rattle.std.proofs.Common.{◌≡◌, ℕ, ◌+◌, ◌<◌, ◌≤◌, ◌-◌, inl, inr, Bool, true, false, List, length}
use Rattle.std.proofs.Common.{Some, refl, sym, ap, ◌∙◌, subst, arith, length-set}
use Rattle.std.specs.Prelude.{IsTrue, slice_get, slice_set, get_or, if◌then◌else◌, ◌==◌}
use Rattle.std.proofs.lemmas.Bool.{cases_eq, cases_lt}
use Rattle.std.proofs.lemmas.List.{get_or-set_same, get_or-set_other}
use Rattle.std.proofs.lemmas.Option.{slice_get_within}
use Rattle.ilcode.specs.declared.word.Word.{Word}
use Rattle.ilcode.specs.Listings.{Listing, IsLawful, IsIn, end_of, start_of}
use Rattle.ilcode.specs.Steps.{is_target, is_callable}
use Rattle.ilverify.specs.Tables.{Says, AreRightFrom, AreDone, IsFilled}
use Rattle.ilcode.proofs.Bodies.{start_suc, end_past, rising, target_ahead, target_within}
use Rattle.ilverify.proofs.CalledBodies.{eq_true, eq_false, apart, callable_earlier, earlier_trans}

-- ---- what is read at a place of a body

abbrev pub read_at : {A : Type 0} → A → A → List A → ℕ → ℕ → A
read_at last none kept end place = if place == end then last else get_or kept place none

pub at_end_is : {A : Type 0} (last none : A) (kept : List A) (end place : ℕ) → place ≡ end
    → read_at last none kept end place ≡ last
at_end_is last none kept end place e =
    ap (λ (b : Bool). if b then last else get_or kept place none) (eq_true place end e)

pub at_place_is : {A : Type 0} (last none : A) (kept : List A) (end place : ℕ) → (place ≡ end → ⊥)
    → read_at last none kept end place ≡ get_or kept place none
at_place_is last none kept end place d =
    ap (λ (b : Bool). if b then last else get_or kept place none) (eq_false place end d)

-- ---- a write leaves what is read elsewhere

same_at : {A : Type 0} (last none : A) (kept : List A) (p : ℕ) (v : A) (end x : ℕ) → ((x ≡ end → ⊥) → x ≡ p → ⊥)
    → read_at last none (slice_set kept p v) end x ≡ read_at last none kept end x
same_at last none kept p v end x h =
    elim (cases_eq x end) as (λ _. read_at last none (slice_set kept p v) end x ≡ read_at last none kept end x) [
      | inl e ↦ at_end_is last none (slice_set kept p v) end x e ∙ sym (at_end_is last none kept end x e)
      | inr d ↦
          at_place_is last none (slice_set kept p v) end x d ∙ get_or-set_other kept p x v none (h d)
          ∙ sym (at_place_is last none kept end x d)
    ]

-- places behind this one in its body are not the one that is written
abbrev pub Own : Listing → ℕ → ℕ → ℕ → Type 0
Own code body place p = (x : ℕ) → place < x → x < end_of code body → x ≡ p → ⊥

-- nor are those of the bodies that it may call
abbrev pub Others : Listing → ℕ → ℕ → Type 0
Others code body p = (function : ℕ) → IsTrue (is_callable body function) → (x : ℕ) → IsIn code (function + 1) x → x ≡ p
    → ⊥

pub same_next : {A : Type 0} (last none : A) (code : Listing) (kept : List A) (p : ℕ) (v : A) (body place : ℕ)
    → IsIn code body place → Own code body place p
    → read_at last none (slice_set kept p v) (end_of code body) (place + 1)
    ≡ read_at last none kept (end_of code body) (place + 1)
same_next last none code kept p v body place i own =
    same_at last none kept p v (end_of code body) (place + 1)
    (λ d. let lt = i.to in own (place + 1) (omega arith) (omega (arith, lt, d)))

-- a lawful target stands ahead in the body, or is its end
pub target_in : (code : Listing) (body place target : ℕ) → IsIn code body place
    → IsTrue (is_target code place target) → (place < target) × (target ≤ end_of code body)
target_in code body place target i t = (target_ahead code place target t, target_within code body place target i.to t)

-- what is read for a jump's target
abbrev pub read_to : {A : Type 0} → A → A → Listing → List A → ℕ → ℕ → ℕ → A
read_to last none code kept end place target =
    if is_target code place target then read_at last none kept end target else none

same_by : {A : Type 0} (last none : A) (kept : List A) (p : ℕ) (v : A) (end x : ℕ) (lawful : Bool)
    → (IsTrue lawful → (x ≡ end → ⊥) → x ≡ p → ⊥)
    → (if lawful then read_at last none (slice_set kept p v) end x else none)
    ≡ (if lawful then read_at last none kept end x else none)
same_by last none kept p v end x true h = same_at last none kept p v end x (h refl)
same_by last none kept p v end x false h = refl

pub same_to : {A : Type 0} (last none : A) (code : Listing) → IsLawful code → (kept : List A) (p : ℕ) (v : A)
    (body place target : ℕ) → IsIn code body place → Own code body place p
    → read_to last none code (slice_set kept p v) (end_of code body) place target
    ≡ read_to last none code kept (end_of code body) place target
same_to last none code lawful kept p v body place target i own =
    same_by last none kept p v (end_of code body) target (is_target code place target) (λ t d.
    let a = target_in code body place target i t in own target a.0 (omega (arith, a.1, d)))

-- what is read for a function
abbrev pub read_in : {A : Type 0} → A → A → Listing → List A → ℕ → A
read_in last none code kept function = read_at last none kept (end_of code (function + 1)) (end_of code function)

pub same_in : {A : Type 0} (last none : A) (code : Listing) → IsLawful code → (kept : List A) (p : ℕ) (v : A)
    (body function : ℕ) → IsTrue (is_callable body function) → Others code body p
    → read_in last none code (slice_set kept p v) function ≡ read_in last none code kept function
same_in last none code lawful kept p v body function callable others =
    same_at last none kept p v (end_of code (function + 1)) (end_of code function) (λ d.
    let rise = rising code lawful function in
    let start = start_suc code function in
    others function callable (end_of code function)
    (record { from = omega (arith, start); to = omega (arith, rise, d) }))

-- ---- one more word

-- what a word says depends on what is kept for its successors alone
pub record IsLocal {A : Type 0} (code : Listing) (says : Says A) : Type 0 where
  pub same : (kept : List A) (p : ℕ) (v : A) (body place : ℕ) (word : Word) → IsIn code body place
      → slice_get code.instructions place ≡ Some word → Own code body place p → Others code body p
      → says (slice_set kept p v) (end_of code body) place word ≡ says kept (end_of code body) place word

right_more : {A : Type 0} (code : Listing) (none : A) (says : Says A) → IsLawful code → IsLocal code says
    → (kept : List A) (body p : ℕ) (v : A) (word : Word) → IsIn code body p → length kept ≡ length code.instructions
    → slice_get code.instructions p ≡ Some word → v ≡ says kept (end_of code body) p word
    → AreRightFrom code none says kept body (p + 1) → AreRightFrom code none says (slice_set kept p v) body p
right_more code none says lawful local kept body p v word i long w e r place other le lt wo =
    elim (cases_eq place p) as (λ _. get_or (slice_set kept p v) place none
    ≡ says (slice_set kept p v) (end_of code body) place other) [
      | inl q ↦
          let wo' = subst (λ (k : ℕ). slice_get code.instructions k ≡ Some other) q wo in
          let same : word ≡ other = cc in
          let there : p < length kept = omega (arith, slice_get_within code.instructions p word w, long) in
          let own : Own code body p p = (λ x a b c. omega (arith, a, c)) in
          let others : Others code body p =
          (λ f c x j d. apart code lawful body (f + 1) p x (callable_earlier body f c) i j d) in
          let here : get_or (slice_set kept p v) p none ≡ says (slice_set kept p v) (end_of code body) p other =
          get_or-set_same kept p v none there ∙ e ∙ ap (says kept (end_of code body) p) same
          ∙ sym (local.same kept p v body p other i wo' own others) in
          subst (λ (k : ℕ). get_or (slice_set kept p v) k none ≡ says (slice_set kept p v) (end_of code body) k other)
          (sym q) here
      | inr d ↦
          let from = i.from in
          let in_body : IsIn code body place = record { from = omega (arith, from, le); to = lt } in
          let own : Own code body place p = (λ x a b c. omega (arith, a, c, le)) in
          let others : Others code body p =
          (λ f c x j k. apart code lawful body (f + 1) p x (callable_earlier body f c) i j k) in
          get_or-set_other kept p place v none d ∙ r place other (omega (arith, le, d)) lt wo
          ∙ sym (local.same kept p v body place other in_body wo own others)
    ]

done_more : {A : Type 0} (code : Listing) (none : A) (says : Says A) → IsLawful code → IsLocal code says
    → (kept : List A) (body p : ℕ) (v : A) → IsIn code body p → AreDone code none says kept body
    → AreDone code none says (slice_set kept p v) body
done_more code none says lawful local kept body p v i done other e place word le lt w =
    let j : IsIn code other place = record { from = le; to = lt } in
    let own : Own code other place p =
    (λ x a b c. apart code lawful body other p x e i (record { from = omega (arith, a, le); to = b }) c) in
    let others : Others code other p =
    (λ f c x k d. apart code lawful body (f + 1) p x
    (earlier_trans body other (f + 1) e (callable_earlier other f c)) i k d)
    in
    get_or-set_other kept p place v none (λ q. apart code lawful body other p place e i j q)
    ∙ done other e place word le lt w ∙ sym (local.same kept p v other place word j w own others)

pub filled_more : {A : Type 0} (code : Listing) (none : A) (says : Says A) → IsLawful code → IsLocal code says
    → (kept : List A) (body p : ℕ) (v : A) (word : Word) → IsIn code body p → slice_get code.instructions p ≡ Some word
    → v ≡ says kept (end_of code body) p word → IsFilled code none says kept body (p + 1)
    → IsFilled code none says (slice_set kept p v) body p
filled_more code none says lawful local kept body p v word i w e f = record {
  long = length-set kept p v ∙ f.long;
  done = done_more code none says lawful local kept body p v i f.done;
  right = right_more code none says lawful local kept body p v word i f.long w e f.right;
}

pub filled_at_end : {A : Type 0} (code : Listing) (none : A) (says : Says A) (kept : List A) (body : ℕ)
    → length kept ≡ length code.instructions → AreDone code none says kept body
    → IsFilled code none says kept body (end_of code body)
filled_at_end code none says kept body long done = record {
  long = long;
  done = done;
  right = λ place word le lt w. absurd (omega (arith, le, lt));
}

-- ---- body by body

pub done_first : {A : Type 0} (code : Listing) (none : A) (says : Says A) (kept : List A)
    → AreDone code none says kept 1
done_first code none says kept other e place word le lt w = absurd (elim e.earlier [
  | inl z ↦ omega (arith, z)
  | inr less ↦ let f = e.function in omega (arith, f, less)
])

pub done_next : {A : Type 0} (code : Listing) (none : A) (says : Says A) (kept : List A) (function : ℕ)
    → IsFilled code none says kept (function + 1) (start_of code (function + 1))
    → AreDone code none says kept (function + 1 + 1)
done_next code none says kept function h other e =
    elim (cases_eq other (function + 1)) as (λ _. AreRightFrom code none says kept other (start_of code other)) [
      | inl q ↦ subst (λ (k : ℕ). AreRightFrom code none says kept k (start_of code k)) (sym q) h.right
      | inr d ↦ h.done other (record { function = e.function; earlier = inr (less d) })
    ]
  where
    less : (other ≡ function + 1 → ⊥) → other < function + 1
    less d = elim e.earlier [ inl z ↦ absurd (omega (arith, z)) | inr lt ↦ omega (arith, lt, d) ]

-- behind the last function there is no body with words
pub past_start : (code : Listing) (body : ℕ) → length code.functions + 1 ≤ body
    → start_of code body ≡ length code.instructions
past_start code body ge =
    let q : body - 1 + 1 ≡ body = omega arith in
    ap (start_of code) (sym q) ∙ start_suc code (body - 1) ∙ end_past code (body - 1) (omega arith)

pub done_all : {A : Type 0} (code : Listing) (none : A) (says : Says A) (kept : List A)
    → AreDone code none says kept (length code.functions + 1) → AreDone code none says kept 0
done_all code none says kept done other e =
    elim (cases_lt other (length code.functions + 1))
    as (λ _. AreRightFrom code none says kept other (start_of code other)) [
      | inl lt ↦ done other (record { function = e.function; earlier = inr lt })
      | inr ge ↦ λ place word le below w.
          let start = past_start code other ge in
          let end = end_past code other (omega (arith, ge)) in
          absurd (omega (arith, start, end, le, below))
    ]
