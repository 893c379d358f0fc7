-- The index of global variables: the slots of a task are added to it, and then those of the next.
use Rattle.std.proofs.Common.{◌≡◌, ℕ, zero, suc, ◌+◌, ◌<◌, ◌≤◌, List, [], ◌∷◌, ◌++◌, map, take, length, get_or, Bool}
use Rattle.std.proofs.Common.{true}
use Rattle.std.proofs.Common.{false, Some, refl, sym, ap, ◌∙◌, arith, get_or-set_same, get_or-set_other}
use Rattle.std.specs.Prelude.{slice_get, slice_set, ◌==◌, ◌&&◌, ◌||◌}
use Rattle.std.proofs.lemmas.Bool.{eqb-true, eqb-false}
use Rattle.std.proofs.Common.{replicate}
use Rattle.std.proofs.lemmas.List.{take_all}
use Rattle.ilmachine.specs.declared.external.External.{External}
use Rattle.ilmachine.specs.declared.slots.TaskSlot.{TaskSlot}
use Rattle.ilmachine.specs.Images.{TaskLayout}
use Rattle.ilmachine.specs.RowSteps.{is_global, names, has_slot, slots_at}
use Rattle.ilmachine.proofs.RowSlots.{neq-eqb, sucs}

abbrev pub no_external : External
no_external = record { global = 0; stored = false }

-- ---- truth values

or_false : (b : Bool) → (b || false) ≡ b
or_false true = refl
or_false false = refl

and_true : (b : Bool) → (b && true) ≡ b
and_true true = refl
and_true false = refl

and_false : (b : Bool) → (b && false) ≡ false
and_false true = refl
and_false false = refl

or_again : (a b c : Bool) → (a || (b || c)) ≡ ((a || b) || c)
or_again true b c = refl
or_again false b c = refl

joined : (a t g n i : Bool) → ((a || (t && g)) || (n && (t && i))) ≡ (a || (t && (g || (n && i))))
joined true t g n i = refl
joined false true g n i = refl
joined false false g true i = refl
joined false false g false i = refl

-- ---- one slot more

has_more : (slots : List TaskSlot) (one : TaskSlot) (task slot : ℕ)
    → has_slot (slots ++ one ∷ []) task slot ≡ (has_slot slots task slot || (one.task == task && one.slot == slot))
has_more [] one task slot = or_false (one.task == task && one.slot == slot)
has_more (x ∷ slots) one task slot =
    let a = x.task == task && x.slot == slot in
    ap (λ (b : Bool). a || b) (has_more slots one task slot)
    ∙ or_again a (has_slot slots task slot) (one.task == task && one.slot == slot)

added_by : (index : List (List TaskSlot)) (place : ℕ) (one : TaskSlot) (global task slot : ℕ) (same : Bool)
    → place < length index → (place == global) ≡ same
    → has_slot (slots_at (slice_set index place (slots_at index place ++ one ∷ [])) global) task slot
    ≡ (has_slot (slots_at index global) task slot || (same && (one.task == task && one.slot == slot)))
added_by index place one global task slot true h e =
    let q : place ≡ global = eqb-true place global e in
    let after = slots_at index place ++ one ∷ [] in
    ap (λ (n : ℕ). has_slot (slots_at (slice_set index place after) n) task slot) (sym q)
    ∙ ap (λ (ss : List TaskSlot). has_slot ss task slot) (get_or-set_same index place after [] h)
    ∙ has_more (slots_at index place) one task slot
    ∙ ap (λ (n : ℕ). has_slot (slots_at index n) task slot || (one.task == task && one.slot == slot)) q
added_by index place one global task slot false h e =
    let after = slots_at index place ++ one ∷ [] in
    ap (λ (ss : List TaskSlot). has_slot ss task slot)
    (get_or-set_other index place global after [] (λ q. eqb-false place global e (sym q)))
    ∙ sym (or_false (has_slot (slots_at index global) task slot))

-- ---- the slots of one task

global_more : (externals : List External) (i slot global : ℕ) (x : External) → slice_get externals i ≡ Some x
    → is_global global (slice_get (take (suc i) externals) slot)
    ≡ (is_global global (slice_get (take i externals) slot) || (x.global == global && i == slot))
global_more [] i slot global x e = absurd (cc)
global_more (y ∷ externals) zero zero global x e =
    let q : y ≡ x = cc in
    ap (λ (z : External). z.global == global) q ∙ sym (and_true (x.global == global))
global_more (y ∷ externals) zero (suc slot) global x e =
    sym (ap (λ (b : Bool). x.global == global && b) (neq-eqb 0 (suc slot) (λ q. omega arith))
    ∙ and_false (x.global == global))
global_more (y ∷ externals) (suc i) zero global x e =
    sym (ap (λ (b : Bool). (y.global == global) || (x.global == global && b))
    (neq-eqb (suc i) 0 (λ q. omega arith))
    ∙ ap (λ (b : Bool). (y.global == global) || b) (and_false (x.global == global))
    ∙ or_false (y.global == global))
global_more (y ∷ externals) (suc i) (suc slot) global x e =
    global_more externals i slot global x e
    ∙ ap (λ (b : Bool). is_global global (slice_get (take i externals) slot) || (x.global == global && b)) (sucs i slot)

-- one turn of the loop over the globals of a task
pub one_more : (index first : List (List TaskSlot)) (task i : ℕ) (externals : List External) (x : External)
    (global other slot : ℕ) → slice_get externals i ≡ Some x → x.global < length index
    → has_slot (slots_at index global) other slot
    ≡ (has_slot (slots_at first global) other slot
    || (task == other && is_global global (slice_get (take i externals) slot)))
    → has_slot (slots_at (slice_set index x.global
    (slots_at index x.global ++ record { task = task; slot = i } ∷ [])) global) other slot
    ≡ (has_slot (slots_at first global) other slot
    || (task == other && is_global global (slice_get (take (i + 1) externals) slot)))
one_more index first task i externals x global other slot e h was =
    let one : TaskSlot = record { task = task; slot = i } in
    let a = has_slot (slots_at first global) other slot in
    let t = task == other in
    let g = is_global global (slice_get (take i externals) slot) in
    let n = x.global == global in
    let next : suc i ≡ i + 1 = omega arith in
    added_by index x.global one global other slot n h refl
    ∙ ap (λ (b : Bool). b || (n && (t && i == slot))) was
    ∙ joined a t g n (i == slot)
    ∙ ap (λ (b : Bool). a || (t && b)) (sym (global_more externals i slot global x e))
    ∙ ap (λ (m : ℕ). a || (t && is_global global (slice_get (take m externals) slot))) next

-- ---- one task more

names_more : (layouts : List TaskLayout) (k task slot global : ℕ) (t : TaskLayout) → slice_get layouts k ≡ Some t
    → names (take (suc k) layouts) task slot global
    ≡ (names (take k layouts) task slot global || (k == task && is_global global (slice_get t.externals slot)))
names_more [] k task slot global t e = absurd (cc)
names_more (u ∷ layouts) zero zero slot global t e =
    let q : u ≡ t = cc in ap (λ (v : TaskLayout). is_global global (slice_get v.externals slot)) q
names_more (u ∷ layouts) zero (suc task) slot global t e =
    sym (ap (λ (b : Bool). b && is_global global (slice_get t.externals slot))
    (neq-eqb 0 (suc task) (λ q. omega arith)))
names_more (u ∷ layouts) (suc k) zero slot global t e =
    sym (ap (λ (b : Bool). is_global global (slice_get u.externals slot)
    || (b && is_global global (slice_get t.externals slot))) (neq-eqb (suc k) 0 (λ q. omega arith))
    ∙ or_false (is_global global (slice_get u.externals slot)))
names_more (u ∷ layouts) (suc k) (suc task) slot global t e =
    names_more layouts k task slot global t e
    ∙ ap (λ (b : Bool). names (take k layouts) task slot global
    || (b && is_global global (slice_get t.externals slot))) (sucs k task)

-- one turn of the loop over the tasks
pub one_task_more : (layouts : List TaskLayout) (k task slot global : ℕ) (t : TaskLayout) (was now : Bool)
    → slice_get layouts k ≡ Some t → was ≡ names (take k layouts) task slot global
    → now ≡ (was || (k == task && is_global global (slice_get t.externals slot)))
    → now ≡ names (take (k + 1) layouts) task slot global
one_task_more layouts k task slot global t was now e w n =
    let next : suc k ≡ k + 1 = omega arith in
    n ∙ ap (λ (b : Bool). b || (k == task && is_global global (slice_get t.externals slot))) w
    ∙ sym (names_more layouts k task slot global t e)
    ∙ ap (λ (m : ℕ). names (take m layouts) task slot global) next

pub all_tasks : (layouts : List TaskLayout) (k task slot global : ℕ) → length layouts ≤ k
    → names (take k layouts) task slot global ≡ names layouts task slot global
all_tasks layouts k task slot global h =
    ap (λ (ls : List TaskLayout). names ls task slot global) (take_all k layouts h)

-- what is read of the lists as code keeps them
pub list_read : {V : Type 0} (items : V → List TaskSlot) (index : List V) (global : ℕ) (read : V)
    → global < length index → read ≡ get_or index global read → items read ≡ slots_at (map items index) global
list_read items [] global read h e = absurd (omega arith)
list_read items (u ∷ index) zero read h e = ap items e
list_read items (u ∷ index) (suc global) read h e = list_read items index global read (omega arith) e

-- ---- an index of which no variable stands anywhere

pub none_at : (count global : ℕ) → slots_at (replicate count []) global ≡ []
none_at zero global = refl
none_at (suc count) zero = refl
none_at (suc count) (suc global) = none_at count global
