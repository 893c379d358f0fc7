-- The slots from which a scan stores to global variables: storing from them, one by one, stores what a scan does.
use Rattle.std.proofs.Common.{◌≡◌, ℕ, suc, ◌+◌, ◌<◌, ◌≤◌, List, [], ◌∷◌, ◌++◌, drop, length, get_or, Bool, true, false}
use Rattle.std.proofs.Common.{cond, Some, refl, sym, ap, ◌∙◌, subst, arith}
use Rattle.std.specs.Prelude.{All, slice_get, slice_set}
use Rattle.std.proofs.lemmas.List.{drop_more, drop_all, append-nil, append_assoc}
use Rattle.std.proofs.lemmas.List.Elements.{All-nil, All-cons}
use Rattle.iltypes.specs.declared.value.Value.{Value}
use Rattle.iltypes.specs.declared.value.Value.TheVariants as values
use Rattle.ilmachine.specs.declared.external.External.{External}
use Rattle.ilmachine.specs.declared.slots.StoredSlot.{StoredSlot}
use Rattle.ilmachine.specs.Images.{stored_slot, stored_from, stored_slots}
use Rattle.ilmachine.specs.ImageSteps.{stored_globals}
use Rattle.ilmachine.specs.RowSteps.{stored_by}

abbrev pub no_store : StoredSlot
no_store = record { slot = 0; global = 0 }

abbrev off : Value
off = values.Bool false

-- ---- what is stored

by_one : (k : ℕ) (e : External) (more : List External) (row globals : List Value) (b : Bool)
    → ((gs : List Value) → stored_by (stored_from (k + 1) more) row gs ≡ stored_globals more (drop (k + 1) row) gs)
    → stored_by (cond b (stored_slot k e ∷ stored_from (k + 1) more) (stored_from (k + 1) more)) row globals
    ≡ stored_globals more (drop (k + 1) row) (cond b (slice_set globals e.global (get_or row k off)) globals)
by_one k e more row globals true h = h (slice_set globals e.global (get_or row k off))
by_one k e more row globals false h = h globals

by_globals : (k : ℕ) (externals : List External) (row globals : List Value) → k + length externals ≤ length row
    → stored_by (stored_from k externals) row globals ≡ stored_globals externals (drop k row) globals
by_globals k [] row globals h = refl
by_globals k (e ∷ more) row globals h =
    by_one k e more row globals e.stored (λ gs. by_globals (k + 1) more row gs (omega arith))
    ∙ sym (ap (λ (vs : List Value). stored_globals (e ∷ more) vs globals) (drop_more row k off (omega arith)))

pub stores_all : (externals : List External) (row globals : List Value) → length externals ≤ length row
    → stored_by (stored_slots externals) row globals ≡ stored_globals externals row globals
stores_all externals row globals h = by_globals 0 externals row globals (omega arith)

-- one turn of the loop over the slots
pub one_stored_more : (slots : List StoredSlot) (i : ℕ) (row globals after all : List Value) → i < length slots
    → after ≡ slice_set globals (get_or slots i no_store).global (get_or row (get_or slots i no_store).slot off)
    → stored_by (drop i slots) row globals ≡ all → stored_by (drop (i + 1) slots) row after ≡ all
one_stored_more slots i row globals after all h a was =
    ap (stored_by (drop (i + 1) slots) row) a
    ∙ sym (ap (λ (ss : List StoredSlot). stored_by ss row globals) (drop_more slots i no_store h)) ∙ was

-- ---- the slots

all_by : (P : StoredSlot → Type 0) (k : ℕ) (e : External) (rest : List StoredSlot) (b : Bool) → P (stored_slot k e)
    → All P rest → All P (cond b (stored_slot k e ∷ rest) rest)
all_by P k e rest true p h = All-cons P (stored_slot k e) rest p h
all_by P k e rest false p h = h

pub all_from : (P : StoredSlot → Type 0) (k : ℕ) (externals : List External)
    → ((s : ℕ) (x : External) → slice_get externals s ≡ Some x → P (stored_slot (k + s) x))
    → All P (stored_from k externals)
all_from P k [] h = All-nil P
all_from P k (e ∷ more) h =
    let first : k + 0 ≡ k = omega arith in
    all_by P k e (stored_from (k + 1) more) e.stored (subst (λ (n : ℕ). P (stored_slot n e)) first (h 0 e refl))
    (all_from P (k + 1) more (λ s x q.
    let next : k + suc s ≡ (k + 1) + s = omega arith in
    subst (λ (n : ℕ). P (stored_slot n x)) next (h (suc s) x q)))

pub all_stores : (P : StoredSlot → Type 0) (externals : List External)
    → ((s : ℕ) (x : External) → slice_get externals s ≡ Some x → P (stored_slot s x)) → All P (stored_slots externals)
all_stores P externals h =
    all_from P 0 externals (λ s x q.
    let same : s ≡ 0 + s = omega arith in subst (λ (n : ℕ). P (stored_slot n x)) same (h s x q))

-- ---- one turn of the loop that makes the slots

abbrev pub no_external : External
no_external = record { global = 0; stored = false }

turn_by : (stores rest : List StoredSlot) (one : StoredSlot) (b : Bool)
    → cond b (stores ++ one ∷ []) stores ++ rest ≡ stores ++ cond b (one ∷ rest) rest
turn_by stores rest one true = append_assoc stores (one ∷ []) rest
turn_by stores rest one false = refl

pub stores_turn : (externals : List External) (i : ℕ) (stores after all : List StoredSlot) (b : Bool)
    → i < length externals → (get_or externals i no_external).stored ≡ b
    → after ≡ cond b (stores ++ stored_slot i (get_or externals i no_external) ∷ []) stores
    → stores ++ stored_from i (drop i externals) ≡ all → after ++ stored_from (i + 1) (drop (i + 1) externals) ≡ all
stores_turn externals i stores after all b h e a was =
    let x = get_or externals i no_external in
    let rest = stored_from (i + 1) (drop (i + 1) externals) in
    ap (λ (ss : List StoredSlot). ss ++ rest) a
    ∙ turn_by stores rest (stored_slot i x) b
    ∙ ap (λ (c : Bool). stores ++ cond c (stored_slot i x ∷ rest) rest) (sym e)
    ∙ sym (ap (λ (es : List External). stores ++ stored_from i es) (drop_more externals i no_external h)) ∙ was

pub stores_done : (externals : List External) (i : ℕ) (stores : List StoredSlot) → length externals ≤ i
    → stores ++ stored_from i (drop i externals) ≡ stored_slots externals → stores ≡ stored_slots externals
stores_done externals i stores h e =
    sym (append-nil stores)
    ∙ sym (ap (λ (es : List External). stores ++ stored_from i es) (drop_all i externals h)) ∙ e
