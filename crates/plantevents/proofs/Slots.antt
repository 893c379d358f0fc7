-- The slots of a task in the process image are those of the plan.
use Rattle.std.proofs.Common.{◌≡◌, ℕ, zero, suc, ◌+◌, ◌-◌, ◌≤◌, List, [], ◌∷◌, ◌++◌, map, length}
use Rattle.std.proofs.Common.{Some, None, refl, sym, ap, ◌∙◌, subst, arith}
use Rattle.std.proofs.lemmas.Option.{slice_get-map, slice_get_past}
use Rattle.std.specs.Prelude.{slice_get, filter_map, option_map, option_and_then, option_to_list}
use Rattle.std.specs.List.{AllByRecursion, cons_option}
use Rattle.iltypes.specs.declared.value.Value.{Value}
use Rattle.ilplan.specs.Name.{Name}
use Rattle.ilplan.specs.declared.slot.Slot.{Slot}
use Rattle.ilplan.specs.declared.slot.SlotOwner as slots
use Rattle.ilplan.specs.declared.slot.SlotOwner.TheVariants as slot
use Rattle.ilplan.specs.Plans.{PlannedTask, stores, Precedes, AreOrdered}
use Rattle.ilmachine.specs.Verdicts.{Accepted}
use Rattle.ilmachine.specs.declared.external.External.{External}
use Rattle.ilmachine.specs.Images.{TaskLayout, first_task, variable_at}
use Rattle.ilmachine.specs.Images.{written_at}
use Rattle.plantevents.specs.Plants.{Plant, task_at, external_in, externals_from, externals_of, own_by, own_initials}
use Rattle.plantevents.specs.Plants.{first_tasks, layout}
use Rattle.plantevents.specs.Slots.{own_number, IsSlotOf}

-- ---- global variables come first

abbrev pub variables : List Slot → List slots.SlotOwner
variables slots = map (λ s. s.variable) slots

abbrev pub owns : List Slot → List Value
owns slots = filter_map (λ s. own_by s.variable s.initial) slots

abbrev pub external_of : PlannedTask → ℕ → ℕ → External
external_of task n global = record { global = global; stored = stores task n }

all_at : (P : slots.SlotOwner → Type 0) (more : List Slot) (i : ℕ) (s : Slot) → AllByRecursion P (variables more)
    → slice_get more i ≡ Some s → P s.variable
all_at P [] i s all is = absurd (cc)
all_at P (x ∷ more) zero s all is = let e : x ≡ s = cc in subst (λ (y : Slot). P y.variable) e all.0
all_at P (x ∷ more) (suc i) s all is = all_at P more i s all.1 is

no_external : (task : PlannedTask) (n : ℕ) (instance name : Name) (v : slots.SlotOwner)
    → Precedes (slot.Own instance name) v
    → external_in task n v ≡ None
no_external task n instance name (slot.Global global) own = absurd own
no_external task n instance name (slot.Own other x) own = refl

-- behind an own variable there is no global one
none_global : (task : PlannedTask) (n : ℕ) (instance name : Name) (more : List Slot)
    → AllByRecursion (Precedes (slot.Own instance name)) (variables more) → externals_from task n more ≡ []
none_global task n instance name [] own = refl
none_global task n instance name (s ∷ more) own =
    ap (λ o. option_to_list o ++ externals_from task (n + 1) more) (no_external task n instance name s.variable own.0)
    ∙ none_global task (n + 1) instance name more own.1

-- the first variable of some, with the others behind it
pub first_global : (task : PlannedTask) (n : ℕ) (x : Slot) (more : List Slot) (global : ℕ) → x.variable ≡ slot.Global global
    → externals_from task n (x ∷ more) ≡ external_of task n global ∷ externals_from task (n + 1) more
first_global task n x more global is = ap (λ v. option_to_list (external_in task n v)
    ++ externals_from task (n + 1) more) is

pub first_own : (task : PlannedTask) (n : ℕ) (x : Slot) (more : List Slot) (instance name : Name)
    → AreOrdered (variables (x ∷ more)) → x.variable ≡ slot.Own instance name
    → (externals_from task n (x ∷ more) ≡ []) × (externals_from task (n + 1) more ≡ [])
first_own task n x more instance name ordered is =
    let behind = subst (λ (v : slots.SlotOwner). AllByRecursion (Precedes v) (variables more)) is ordered.0 in
    let none = none_global task (n + 1) instance name more behind in (
      ap (λ v. option_to_list (external_in task n v) ++ externals_from task (n + 1) more) is ∙ none,
      none,
    )

pub owns_global : (x : Slot) (more : List Slot) (global : ℕ) → x.variable ≡ slot.Global global → owns (x ∷ more) ≡ owns more
owns_global x more global is = ap (λ v. cons_option (own_by v x.initial) (owns more)) is

pub owns_own : (x : Slot) (more : List Slot) (instance name : Name) → x.variable ≡ slot.Own instance name
    → owns (x ∷ more) ≡ x.initial ∷ owns more
owns_own x more instance name is = ap (λ v. cons_option (own_by v x.initial) (owns more)) is

-- ---- a slot of a global variable

no_global_behind : (x s : Slot) (more : List Slot) (i global : ℕ) (instance name : Name)
    → AreOrdered (variables (x ∷ more))
    → slice_get more i ≡ Some s → s.variable ≡ slot.Global global → x.variable ≡ slot.Own instance name → ⊥
no_global_behind x s more i global instance name ordered is of own =
    let behind = subst (λ (v : slots.SlotOwner). AllByRecursion (Precedes v) (variables more)) own ordered.0 in
    let here = all_at (Precedes (slot.Own instance name)) more i s behind is in
    subst (λ (v : slots.SlotOwner). Precedes (slot.Own instance name) v) of here

global_behind : (task : PlannedTask) (n : ℕ) (x : Slot) (more : List Slot) (i : ℕ) (s : Slot) (global : ℕ)
    → AreOrdered (variables (x ∷ more)) → slice_get more i ≡ Some s → s.variable ≡ slot.Global global
    → slice_get (externals_from task (n + 1) more) i ≡ Some (external_of task (n + 1 + i) global)
    → (v : slots.SlotOwner) → x.variable ≡ v
    → slice_get (externals_from task n (x ∷ more)) (suc i) ≡ Some (external_of task (n + suc i) global)
global_behind task n x more i s global ordered is of deeper (slot.Global first) here =
    let same : n + 1 + i ≡ n + suc i = omega arith in
    ap (λ l. slice_get l (suc i)) (first_global task n x more first here)
    ∙ (deeper ∙ ap (λ m. Some (external_of task m global)) same)
global_behind task n x more i s global ordered is of deeper (slot.Own instance name) here =
    absurd (no_global_behind x s more i global instance name ordered is of here)

global_at : (task : PlannedTask) (n : ℕ) (slots : List Slot) (i : ℕ) (s : Slot) (global : ℕ)
    → AreOrdered (variables slots)
    → slice_get slots i ≡ Some s → s.variable ≡ slot.Global global
    → slice_get (externals_from task n slots) i ≡ Some (external_of task (n + i) global)
global_at task n [] i s global ordered is of = absurd (cc)
global_at task n (x ∷ more) zero s global ordered is of =
    let e : x ≡ s = cc in
    let here : n ≡ n + 0 = omega arith in
    ap (λ l. slice_get l 0) (first_global task n x more global (subst (λ (y : Slot).
    y.variable ≡ slot.Global global) (sym e) of))
    ∙ ap (λ m. Some (external_of task m global)) here
global_at task n (x ∷ more) (suc i) s global ordered is of =
    global_behind task n x more i s global ordered is of (global_at task
    (n + 1) more i s global ordered.1 is of) x.variable refl

-- ---- a slot of an own variable

record IsOwnAt (task : PlannedTask) (n : ℕ) (slots : List Slot) (i : ℕ) (initial : Value) : Type 0 where
  behind : length (externals_from task n slots) ≤ i
  value : slice_get (owns slots) (i - length (externals_from task n slots)) ≡ Some initial

own_here : (task : PlannedTask) (n : ℕ) (x : Slot) (more : List Slot) (instance name : Name)
    → AreOrdered (variables (x ∷ more))
    → x.variable ≡ slot.Own instance name → IsOwnAt task n (x ∷ more) 0 x.initial
own_here task n x more instance name ordered is =
    let none = (first_own task n x more instance name ordered is).0 in
    let len = ap length none in
    let first : 0 - length (externals_from task n (x ∷ more)) ≡ 0 = omega arith in
    record {
      behind = omega arith;
      value = ap (slice_get (owns (x ∷ more))) first ∙ ap (λ l. slice_get l 0) (owns_own x more instance name is);
    }

own_behind : (task : PlannedTask) (n : ℕ) (x : Slot) (more : List Slot) (i : ℕ) (initial : Value)
    → AreOrdered (variables (x ∷ more))
    → IsOwnAt task (n + 1) more i initial → (v : slots.SlotOwner) → x.variable ≡ v
    → IsOwnAt task n (x ∷ more) (suc i) initial
own_behind task n x more i initial ordered deeper (slot.Global global) is =
    let len = ap length (first_global task n x more global is) in
    let le = deeper.behind in
    let same : suc i - length (externals_from task n (x ∷ more)) ≡ i - length (externals_from task (n + 1) more) =
    omega arith in
    record {
      behind = omega arith;
      value = ap (slice_get (owns (x ∷ more))) same
          ∙ (ap (λ l. slice_get l (i - length (externals_from task (n + 1) more))) (owns_global x more global is)
          ∙ deeper.value);
    }
own_behind task n x more i initial ordered deeper (slot.Own instance name) is =
    let none = first_own task n x more instance name ordered is in
    let len = ap length none.0 in
    let others = ap length none.1 in
    let here : suc i - length (externals_from task n (x ∷ more)) ≡ suc i = omega arith in
    let there : i ≡ i - length (externals_from task (n + 1) more) = omega arith in
    record {
      behind = omega arith;
      value = ap (slice_get (owns (x ∷ more))) here
          ∙ (ap (λ l. slice_get l (suc i)) (owns_own x more instance name is)
          ∙ (ap (slice_get (owns more)) there ∙ deeper.value));
    }

own_at : (task : PlannedTask) (n : ℕ) (slots : List Slot) (i : ℕ) (s : Slot) (instance name : Name)
    → AreOrdered (variables slots)
    → slice_get slots i ≡ Some s → s.variable ≡ slot.Own instance name → IsOwnAt task n slots i s.initial
own_at task n [] i s instance name ordered is of = absurd (cc)
own_at task n (x ∷ more) zero s instance name ordered is of =
    let e : x ≡ s = cc in
    subst (λ (y : Slot). IsOwnAt task n (x ∷ more) 0 y.initial) e
    (own_here task n x more instance name ordered (subst (λ (y : Slot).
    y.variable ≡ slot.Own instance name) (sym e) of))
own_at task n (x ∷ more) (suc i) s instance name ordered is of =
    own_behind task n x more i s.initial ordered (own_at task
    (n + 1) more i s instance name ordered.1 is of) x.variable refl

-- ---- in the process image

first_at : (tasks : List PlannedTask) (codes : List Accepted) (t : ℕ) (task : PlannedTask) (code : Accepted)
    → slice_get tasks t ≡ Some task → slice_get codes t ≡ Some code
    → slice_get (first_tasks tasks codes) t ≡ Some (first_task code (externals_of task) (own_initials task) task.states)
first_at [] codes t task code is of = absurd (cc)
first_at (x ∷ tasks) [] t task code is of = absurd (cc)
first_at (x ∷ tasks) (y ∷ codes) zero task code is of =
    let e : x ≡ task = cc in
    let f : y ≡ code = cc in
    ap (λ z. Some (first_task y (externals_of z) (own_initials z) z.states)) e
    ∙ ap (λ z. Some (first_task z (externals_of task) (own_initials task) task.states)) f
first_at (x ∷ tasks) (y ∷ codes) (suc t) task code is of = first_at tasks codes t task code is of

abbrev layout_of_task : Accepted → PlannedTask → TaskLayout
layout_of_task code task = record { verified = code; externals = externals_of task }

layout_at : (p : Plant) (t : ℕ) (task : PlannedTask) (code : Accepted) → task_at p t ≡ Some task
    → slice_get p.codes t ≡ Some code
    → slice_get (layout p).tasks t ≡ Some (layout_of_task code task)
layout_at p t task code is of =
    slice_get-map (λ k. k.layout) (first_tasks p.plan.tasks p.codes) t
    ∙ ap (option_map (λ k. k.layout)) (first_at p.plan.tasks p.codes t task code is of)

pub slot_of : (p : Plant) (t : ℕ) (task : PlannedTask) (code : Accepted) (number : ℕ) (s : Slot) (v : slots.SlotOwner)
    → task_at p t ≡ Some task → slice_get p.codes t ≡ Some code → AreOrdered (variables task.slots)
    → slice_get task.slots number ≡ Some s → s.variable ≡ v → IsSlotOf p t task number s.initial v
slot_of p t task code number s (slot.Global global) is of ordered there variable =
    let place = layout_at p t task code is of in
    let external = global_at task 0 task.slots number s global ordered there variable in
    let same : 0 + number ≡ number = omega arith in
    let found : slice_get (externals_of task) number ≡ Some (external_of task number global) =
    external ∙ ap (λ m. Some (external_of task m global)) same in (
      ap (option_map (λ k. variable_at t (number - length k.externals) (slice_get k.externals number))) place
          ∙ ap (λ e. Some (variable_at t (own_number task number) e)) found,
      ap (option_and_then (λ k. written_at t (number - length k.externals) (slice_get k.externals number))) place
          ∙ ap (λ e. written_at t (own_number task number) e) found,
    )
slot_of p t task code number s (slot.Own instance name) is of ordered there variable =
    let place = layout_at p t task code is of in
    let own = own_at task 0 task.slots number s instance name ordered there variable in
    let none = slice_get_past (externals_of task) number own.behind in (
      ap (option_map (λ k. variable_at t (number - length k.externals) (slice_get k.externals number))) place
          ∙ ap (λ e. Some (variable_at t (own_number task number) e)) none,
      ap (option_and_then (λ k. written_at t (number - length k.externals) (slice_get k.externals number))) place
          ∙ ap (λ e. written_at t (own_number task number) e) none,
      ap (option_and_then (λ k.
          slice_get k.own.slots (own_number task number))) (first_at p.plan.tasks p.codes t task code is of)
          ∙ own.value,
    )
