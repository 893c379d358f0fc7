-- What a plan says of the slots of its tasks: globals are there, and what a scan by hand begins from is in its types.
use Rattle.std.proofs.Common.{◌≡◌, ℕ, zero, suc, ◌<◌, List, [], ◌∷◌, length, map, refl, sym, ap, ◌∙◌, subst}
use Rattle.std.proofs.Common.{Bool, true, false, cond, get_or, Option, Some, None, option_map}
use Rattle.std.specs.Prelude.{slice_get}
use Rattle.std.proofs.lemmas.Bool.Decides.{Decides-eqb}
use Rattle.std.proofs.lemmas.Option.{slice_get_within, slice_get-get_or}
use Rattle.std.specs.List.{AllByRecursion}
use Rattle.std.specs.Option.{option_map_or}
use Rattle.iltypes.specs.declared.value.IlType.{IlType}
use Rattle.iltypes.specs.declared.value.IlType.TheVariants as types
use Rattle.iltypes.specs.declared.value.Value.{Value}
use Rattle.iltypes.specs.declared.value.Value.TheVariants as values
use Rattle.iltypes.specs.Values.{IsOf, AreOf}
use Rattle.ilplan.specs.declared.activation.Activation.{Activation}
use Rattle.ilplan.specs.declared.activation.Activation.TheVariants.{Cyclic, Event}
use Rattle.ilplan.specs.declared.global.Global.{Global as GlobalVariable}
use Rattle.ilplan.specs.declared.slot.Slot.{Slot}
use Rattle.ilplan.specs.declared.slot.SlotOwner.{SlotOwner}
use Rattle.ilplan.specs.declared.slot.SlotOwner.TheVariants.{Global, Own}
use Rattle.ilplan.specs.Functions.{PlannedFunction}
use Rattle.ilplan.specs.Plans.{Planned, PlannedTask, KeepsLimits, IsLawful, IsDeclared, IsTaskOf, HasTrigger, IsThere}
use Rattle.ilplan.specs.Plans.{HasStates}
use Rattle.ilplan.specs.Plans.{type_and_initial, first_value, first_values, is_trigger_of, types_of}

-- one of all
at : {X : Type 0} (P : X → Type 0) (xs : List X) (k : ℕ) (x : X) → AllByRecursion P xs → slice_get xs k ≡ Some x → P x
at P [] k x all e = absurd cc
at P (y ∷ xs) zero x all e = let same : y ≡ x = cc in subst P same all.0
at P (y ∷ xs) (suc k) x all e = at P xs k x all.1 e

-- two types, one at a trigger and the other of a slot
same_type : (o : Option GlobalVariable) (g : GlobalVariable) (t : IlType) (v : Value) → o ≡ Some g
    → option_map type_and_initial o ≡ Some (t, v) → g.value_type ≡ t
same_type None g t v is declared = absurd cc
same_type (Some x) g t v is declared =
    ap (λ (o : Option GlobalVariable). option_map_or (λ y. y.value_type) o types.Bool) (sym is)
    ∙ ap (λ (o : Option (IlType × Value)). option_map_or (λ p. p.0) o types.Bool) declared

first_of : (globals : List GlobalVariable) (a : Activation) (variable : SlotOwner) (t : IlType) (v : Value)
    → HasTrigger globals a → IsDeclared globals variable t v → IsOf v t
    → (b : Bool) → is_trigger_of a variable ≡ b → IsOf (cond b (values.Bool true) v) t
first_of globals a variable t v trigger declared is false e = is
first_of globals (Cyclic interval) variable t v trigger declared is true e = absurd cc
first_of globals (Event number) (Own instance name) t v trigger declared is true e = absurd cc
first_of globals (Event number) (Global k) t v trigger declared is true e =
    let same : number ≡ k = (Decides-eqb number k).0 e in
    let there = subst (λ (n : ℕ). slice_get globals n ≡ Some trigger.0) same trigger.1 in
    let type = same_type (slice_get globals k) trigger.0 t v there declared in
    subst (λ (u : IlType). IsOf (values.Bool true) u) (sym trigger.2.truth ∙ type) tt

firsts : (globals : List GlobalVariable) (task : PlannedTask) (slots : List Slot) → HasTrigger globals task.activation
    → AllByRecursion (λ s. IsDeclared globals s.variable s.value_type s.initial) slots
    → AreOf (map (λ s. s.initial) slots) (map (λ s. s.value_type) slots)
    → AreOf (map (first_value task) slots) (map (λ s. s.value_type) slots)
firsts globals task [] trigger declared are = tt
firsts globals task (s ∷ slots) trigger declared are = (
  first_of globals task.activation s.variable s.value_type s.initial trigger declared.0 are.0 _ refl,
  firsts globals task slots trigger declared.1 are.1,
)

declared_there : (globals : List GlobalVariable) (variable : SlotOwner) (t : IlType) (v : Value)
    → IsDeclared globals variable t v → IsThere globals variable
declared_there globals (Own instance name) t v declared = tt
declared_there globals (Global number) t v declared = within (slice_get globals number) refl declared
  where
    within : (o : Option GlobalVariable) → slice_get globals number ≡ o
        → option_map type_and_initial o ≡ Some (t, v) → number < length globals
    within None e h = absurd cc
    within (Some g) e h = slice_get_within globals number g e

-- a task of a plan
pub task_there : (inside tasks : List PlannedTask) (k : ℕ) (task : PlannedTask) → inside ≡ tasks → k < length tasks
    → task ≡ get_or inside k task → slice_get tasks k ≡ Some task
task_there inside tasks k task same within is =
    let here = slice_get-get_or inside k task (subst (λ (ts : List PlannedTask). k < length ts) (sym same) within) in
    subst (λ (ts : List PlannedTask). slice_get ts k ≡ Some task) same (here ∙ ap Some (sym is))

pub task_limits : (plan : Planned) (k : ℕ) (task : PlannedTask) → IsLawful plan → slice_get plan.tasks k ≡ Some task
    → KeepsLimits plan.functions task
task_limits plan k task lawful is = at (KeepsLimits plan.functions) plan.tasks k task lawful.limits is

pub task_of_plan : (plan : Planned) (k : ℕ) (task : PlannedTask) → IsLawful plan → slice_get plan.tasks k ≡ Some task
    → IsTaskOf plan.globals task
task_of_plan plan k task lawful is = at (IsTaskOf plan.globals) plan.tasks k task lawful.tasks is

pub task_states : (plan : Planned) (k : ℕ) (task : PlannedTask) → IsLawful plan → slice_get plan.tasks k ≡ Some task
    → HasStates plan.buses task
task_states plan k task lawful is = at (HasStates plan.buses) plan.tasks k task lawful.states is

module _ (globals : List GlobalVariable) (task : PlannedTask) (declared : IsTaskOf globals task) where
  pub firsts_typed : (functions : List PlannedFunction) → KeepsLimits functions task
      → AreOf (first_values task) (types_of task)
  firsts_typed functions keeps = firsts globals task task.slots declared.0 declared.1 keeps.initials

  -- a global variable that a slot names is there
  pub is_there : (slot : ℕ) (s : Slot) → slice_get task.slots slot ≡ Some s → IsThere globals s.variable
  is_there slot s there =
      let are = λ (x : Slot). IsDeclared globals x.variable x.value_type x.initial in
      declared_there globals s.variable s.value_type s.initial (at are task.slots slot s declared.1 there)
