-- The slots of a task: those of global variables come first, in rising order and as they are declared, then those of
-- variables of its instances.
use Rattle.std.proofs.Common.{◌≡◌, ℕ, suc, ◌+◌, ◌<◌, List, [], ◌∷◌, ◌++◌, map, length, Bool, true, false}
use Rattle.std.proofs.Common.{refl, sym, ap, ◌∙◌, subst, arith}
use Rattle.std.specs.Prelude.{Some, None, slice_get, filter_map, option_map, if◌then◌else◌}
use Rattle.std.specs.List.{AllByRecursion, cons_option, enumerate_from, list_any, position_or_len}
use Rattle.std.proofs.lemmas.Option.{slice_get-map}
use Rattle.ilsource.specs.declared.name.Name.{Name}
use Rattle.ilsource.specs.SourceTrees.{Tree}
use Rattle.ildeclared.specs.declared.global.DeclaredGlobal.{DeclaredGlobal}
use Rattle.ildeclared.specs.declared.variable.DeclaredVariable.{DeclaredVariable}
use Rattle.ilscope.specs.Configured.{globals_of}
use Rattle.ilplan.specs.declared.global.Global.{Global as PlannedGlobal}
use Rattle.ilplan.specs.declared.slot.Slot.{Slot}
use Rattle.ilplan.specs.declared.slot.SlotOwner.{SlotOwner}
use Rattle.ilplan.specs.declared.slot.SlotOwner.TheVariants.{Global, Own}
use Rattle.ilplan.specs.Plans.{IsDeclared, Precedes, AreOrdered, type_and_initial}
use Rattle.ilsyms.specs.PlanningSteps.{is_of_instance}
use Rattle.ilsyms.specs.Resolved.{planned_global}
use Rattle.ilsyms.specs.Tasks.{NamedProgram}
use Rattle.ilsyms.specs.Variables.{is_named, global_slot, named_slot, global_slots, own_slot, own_slots, slots_of}
use Rattle.ilsyms.proofs.NumberingPlaces.{passed_over}

abbrev IsOwn : Slot → Type 0
IsOwn s = (instance : Name) × (name : Name) × (s.variable ≡ Own instance name)

abbrev pub AreOwn : List Slot → Type 0
AreOwn slots = AllByRecursion IsOwn slots

own_variables : (instance : Name) (vs : List DeclaredVariable) (rest : List Slot) → AreOwn rest
    → AreOwn (map (own_slot instance) vs ++ rest)
own_variables instance [] rest r = r
own_variables instance (v ∷ vs) rest r = ((instance, v.name, refl), own_variables instance vs rest r)

own_instances : (is : List NamedProgram) → AreOwn (own_slots is)
own_instances [] = tt
own_instances (i ∷ is) = own_variables i.name i.program.variables (own_slots is) (own_instances is)

-- the first is the first of all that is one of an instance
first_of_own : (slots : List Slot) → AreOwn slots → position_or_len (λ s. is_of_instance s.variable) slots ≡ 0
first_of_own [] own = refl
first_of_own (s ∷ slots) own =
    let is : is_of_instance s.variable ≡ true = ap (λ v. is_of_instance v) own.0.2 in rw is refl

module _ (tree : Tree) (is : List NamedProgram) where
  no_instance : (gs : List (ℕ × DeclaredGlobal))
      → list_any (λ s. is_of_instance s.variable) (filter_map (named_slot tree is) gs) ≡ false
  no_instance [] = refl
  no_instance (g ∷ gs) = by (no_instance gs) (is_named tree is g.0)
    where
      by : list_any (λ s. is_of_instance s.variable) (filter_map (named_slot tree is) gs) ≡ false → (b : Bool)
          → list_any (λ s. is_of_instance s.variable)
          (cons_option (if b then Some (global_slot g.0 g.1) else None) (filter_map (named_slot tree is) gs))
          ≡ false
      by e true = e
      by e false = e

  pub first_own : position_or_len (λ s. is_of_instance s.variable) (slots_of tree is) ≡ length (global_slots tree is)
  first_own =
      let over = passed_over (λ s. is_of_instance s.variable) (global_slots tree is) (own_slots is)
      (no_instance (enumerate_from 0 (globals_of tree))) in
      let zero_there = first_of_own (own_slots is) (own_instances is) in
      omega (arith, over, zero_there)

-- ---- they are in order

before_own : (v : SlotOwner) (instance name : Name) → Precedes v (Own instance name)
before_own (Global number) instance name = tt
before_own (Own its other) instance name = tt

before_all : (v : SlotOwner) (slots : List Slot) → AreOwn slots
    → AllByRecursion (Precedes v) (map (λ s. s.variable) slots)
before_all v [] own = tt
before_all v (s ∷ slots) own =
    let first = subst (λ (w : SlotOwner). Precedes v w) (sym own.0.2) (before_own v own.0.0 own.0.1) in
    (first, before_all v slots own.1)

pub own_ordered : (slots : List Slot) → AreOwn slots → AreOrdered (map (λ s. s.variable) slots)
own_ordered [] own = tt
own_ordered (s ∷ slots) own = (before_all s.variable slots own.1, own_ordered slots own.1)

-- ---- and those of instances are declared by none

pub own_declared : (globals : List PlannedGlobal) (slots : List Slot) → AreOwn slots
    → AllByRecursion (λ s. IsDeclared globals s.variable s.value_type s.initial) slots
own_declared globals [] own = tt
own_declared globals (s ∷ slots) own =
    let first = subst (λ (w : SlotOwner). IsDeclared globals w s.value_type s.initial) (sym own.0.2) tt in
    (first, own_declared globals slots own.1)

-- ---- slots of global variables

module _ (tree : Tree) (is : List NamedProgram) where
  -- what holds of the slot of each global variable holds of those that are named
  of_named : (Q : Slot → Type 0) (gs : List (ℕ × DeclaredGlobal)) → AllByRecursion (λ g. Q (global_slot g.0 g.1)) gs
      → AllByRecursion Q (filter_map (named_slot tree is) gs)
  of_named Q [] h = tt
  of_named Q (g ∷ gs) h = by (of_named Q gs h.1) (is_named tree is g.0)
    where
      by : AllByRecursion Q (filter_map (named_slot tree is) gs) → (b : Bool)
          → AllByRecursion Q
          (cons_option (if b then Some (global_slot g.0 g.1) else None) (filter_map (named_slot tree is) gs))
      by rest true = (h.0, rest)
      by rest false = rest

  rows_hold : (Q : Slot → Type 0) (gs : List DeclaredGlobal) (k : ℕ)
      → ((n : ℕ) (g : DeclaredGlobal) → slice_get gs n ≡ Some g → Q (global_slot (k + n) g))
      → AllByRecursion (λ g. Q (global_slot g.0 g.1)) (enumerate_from k gs)
  rows_hold Q [] k h = tt
  rows_hold Q (g ∷ gs) k h = (
    subst (λ m. Q (global_slot m g)) (omega arith) (h 0 g refl),
    rows_hold Q gs (k + 1)
        (λ n other e. subst (λ m. Q (global_slot m other)) (omega arith) (h (suc n) other e)),
  )

  pub all_global : (Q : Slot → Type 0)
      → ((n : ℕ) (g : DeclaredGlobal) → slice_get (globals_of tree) n ≡ Some g → Q (global_slot n g))
      → AllByRecursion Q (global_slots tree is)
  all_global Q h =
      of_named Q (enumerate_from 0 (globals_of tree))
      (rows_hold Q (globals_of tree) 0
      (λ n g e. subst (λ m. Q (global_slot m g)) (omega arith) (h n g e)))

  -- ---- they are in order

  abbrev slots_from : ℕ → List DeclaredGlobal → List Slot
  slots_from k gs = filter_map (named_slot tree is) (enumerate_from k gs) ++ own_slots is

  after : (n k : ℕ) → n < k → (gs : List DeclaredGlobal)
      → AllByRecursion (Precedes (Global n)) (map (λ s. s.variable) (slots_from k gs))
  after n k less [] = before_all (Global n) (own_slots is) (own_instances is)
  after n k less (g ∷ gs) = by (after n (k + 1) (omega (arith, less)) gs) (is_named tree is k)
    where
      by : AllByRecursion (Precedes (Global n)) (map (λ s. s.variable) (slots_from (k + 1) gs)) → (b : Bool)
          → AllByRecursion (Precedes (Global n))
          (map (λ s. s.variable)
          (cons_option (if b then Some (global_slot k g) else None)
          (filter_map (named_slot tree is) (enumerate_from (k + 1) gs)) ++ own_slots is))
      by rest true = (less, rest)
      by rest false = rest

  ordered_from : (k : ℕ) (gs : List DeclaredGlobal) → AreOrdered (map (λ s. s.variable) (slots_from k gs))
  ordered_from k [] = own_ordered (own_slots is) (own_instances is)
  ordered_from k (g ∷ gs) =
      by (after k (k + 1) (omega arith) gs) (ordered_from (k + 1) gs) (is_named tree is k)
    where
      by : AllByRecursion (Precedes (Global k)) (map (λ s. s.variable) (slots_from (k + 1) gs))
          → AreOrdered (map (λ s. s.variable) (slots_from (k + 1) gs)) → (b : Bool)
          → AreOrdered
          (map (λ s. s.variable)
          (cons_option (if b then Some (global_slot k g) else None)
          (filter_map (named_slot tree is) (enumerate_from (k + 1) gs)) ++ own_slots is))
      by later rest true = (later, rest)
      by later rest false = rest

  pub ordered : AreOrdered (map (λ s. s.variable) (slots_of tree is))
  ordered = ordered_from 0 (globals_of tree)

  -- ---- and as they are declared

  both_all : (Q : Slot → Type 0) (xs ys : List Slot) → AllByRecursion Q xs → AllByRecursion Q ys
      → AllByRecursion Q (xs ++ ys)
  both_all Q [] ys h k = k
  both_all Q (x ∷ xs) ys h k = (h.0, both_all Q xs ys h.1 k)

  pub all_declared :
      AllByRecursion (λ s. IsDeclared (map planned_global (globals_of tree)) s.variable s.value_type s.initial)
      (slots_of tree is)
  all_declared =
      let globals = map planned_global (globals_of tree) in
      both_all (λ s. IsDeclared globals s.variable s.value_type s.initial) (global_slots tree is) (own_slots is)
      (all_global (λ s. IsDeclared globals s.variable s.value_type s.initial)
      (λ n g e. ap (option_map type_and_initial)
      (slice_get-map planned_global (globals_of tree) n ∙ ap (option_map planned_global) e)))
      (own_declared globals (own_slots is) (own_instances is))
