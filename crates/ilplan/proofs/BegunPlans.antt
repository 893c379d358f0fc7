-- A plan that begins with other values is lawful.
use Rattle.std.proofs.Common.{◌≡◌, ℕ, zero, suc, List, [], ◌∷◌, length, get_or, map, refl, sym, ap, ◌∙◌}
use Rattle.std.proofs.Common.{subst, Option, Some, None, option_map, arith}
use Rattle.std.specs.Prelude.{All, AllPairs, IfSome, slice_get}
use Rattle.std.specs.List.{AllByRecursion, AllZip}
use Rattle.std.proofs.lemmas.List.Elements.{All-nil, All-cons, All-head, All-tail}
use Rattle.std.proofs.lemmas.Option.{some_pair_parts}
use Rattle.std.proofs.lemmas.Slice.Zip.{AllZip-long}
use Rattle.iltypes.specs.declared.value.IlType.{IlType}
use Rattle.iltypes.specs.declared.value.Value.{Value}
use Rattle.iltypes.specs.Values.{AreOf}
use Rattle.wordlines.specs.Wirings.{Wiring}
use Rattle.ilblocks.specs.declared.kind.BlockKind.{BlockKind}
use Rattle.ilblocks.specs.Calls.{Block, IsBlockOf}
use Rattle.ilblocks.specs.Stores.{Lasting}
use Rattle.ilplan.specs.declared.activation.Activation.{Activation}
use Rattle.ilplan.specs.declared.activation.Activation.TheVariants.{Cyclic, Event}
use Rattle.ilplan.specs.declared.global.Global.{Global as GlobalVariable}
use Rattle.ilplan.specs.declared.global.Location.{Location}
use Rattle.ilplan.specs.declared.slot.Slot.{Slot}
use Rattle.ilplan.specs.declared.slot.SlotOwner.{SlotOwner}
use Rattle.ilplan.specs.declared.slot.SlotOwner.TheVariants.{Global, Own}
use Rattle.ilplan.specs.Functions.{PlannedFunction}
use Rattle.ilplan.specs.Plans.{Planned, PlannedTask, KeepsLimits, IsLawful, IsDeclared, IsTaskOf, HasTrigger, AreApart}
use Rattle.ilplan.specs.Plans.{IsLocatedIn, AreLinesOf, AreOrdered, wiring_of, kinds_of, inputs_of, all_lines}
use Rattle.ilplan.specs.Plans.{HasStates, type_and_initial, types_of}
use Rattle.ilplan.specs.BeginningSteps.{FitsTask}
use Rattle.ilplan.specs.Beginnings.{each_with, global_with, slot_with, task_with, plan_with, BeginsAs}
use Rattle.ilplan.specs.Beginnings.{MayBeginTask, MayBegin}
use Rattle.ilplan.proofs.Beginnings.{length_with, map_with, map_given}

as_long : (values : List Value) (types : List IlType) → AreOf values types → length values ≡ length types
as_long [] [] are = refl
as_long [] (type ∷ types) are = absurd are
as_long (value ∷ values) [] are = absurd are
as_long (value ∷ values) (type ∷ types) are = ap suc (as_long values types are.1)

length_map : {X Y : Type 0} (f : X → Y) (xs : List X) → length (map f xs) ≡ length xs
length_map f [] = refl
length_map f (x ∷ xs) = ap suc (length_map f xs)

-- ---- global variables

located : (wiring : Wiring) (globals : List GlobalVariable) (values : List Value) → All (IsLocatedIn wiring) globals
    → All (IsLocatedIn wiring) (each_with global_with globals values)
located wiring [] values all = All-nil (IsLocatedIn wiring)
located wiring (g ∷ globals) [] all = all
located wiring (g ∷ globals) (v ∷ values) all =
    All-cons (IsLocatedIn wiring) (global_with g v) (each_with global_with globals values)
    (All-head (IsLocatedIn wiring) g globals all)
    (located wiring globals values (All-tail (IsLocatedIn wiring) g globals all))

location_at : (globals : List GlobalVariable) (values : List Value) (i : ℕ) (d : GlobalVariable)
    → (get_or (each_with global_with globals values) i d).location ≡ (get_or globals i d).location
location_at [] values i d = refl
location_at (g ∷ globals) [] i d = refl
location_at (g ∷ globals) (v ∷ values) zero d = refl
location_at (g ∷ globals) (v ∷ values) (suc i) d = location_at globals values i d

abbrev Apart : Option Location → Option Location → Type 0
Apart one other = IfSome one (λ location. ¬ (other ≡ Some location))

apart : (globals : List GlobalVariable) (values : List Value) → AllPairs AreApart globals
    → AllPairs AreApart (each_with global_with globals values)
apart globals values all i j d before within =
    let long = length_with global_with globals values in
    subst (λ (o : Option Location). Apart o (get_or (each_with global_with globals values) j d).location)
    (sym (location_at globals values i d))
    (subst (λ (o : Option Location). Apart (get_or globals i d).location o) (sym (location_at globals values j d))
    (all i j d before (omega arith)))

-- the global variable of a number, and the value with which it begins
record IsBegun (globals : List GlobalVariable) (values : List Value) (n : ℕ) (g : GlobalVariable) : Type 0 where
  value : Value
  given : slice_get values n ≡ Some value
  is : slice_get (each_with global_with globals values) n ≡ Some (global_with g value)

begun_at : (globals : List GlobalVariable) (values : List Value) (n : ℕ) (g : GlobalVariable)
    → length values ≡ length globals → slice_get globals n ≡ Some g → IsBegun globals values n g
begun_at [] values n g long there = absurd (cc)
begun_at (x ∷ globals) [] n g long there = absurd (omega arith)
begun_at (x ∷ globals) (v ∷ values) zero g long there =
    let same : x ≡ g = cc in
    record { value = v; given = refl; is = ap (λ (y : GlobalVariable). Some (global_with y v)) same }
begun_at (x ∷ globals) (v ∷ values) (suc n) g long there =
    let b = begun_at globals values n g (omega arith) there in
    record { value = b.value; given = b.given; is = b.is }

-- ---- tasks

trigger : (globals : List GlobalVariable) (values : List Value) (a : Activation) → length values ≡ length globals
    → HasTrigger globals a → HasTrigger (each_with global_with globals values) a
trigger globals values (Cyclic interval) long has = tt
trigger globals values (Event number) long (g, there, is) =
    let b = begun_at globals values number g long there in
    (global_with g b.value, b.is, record { bus = is.bus; source = is.source; located = is.located; truth = is.truth })

declared_by : (globals : List GlobalVariable) (values : List Value) (n : ℕ) (t : IlType) (old v : Value)
    → length values ≡ length globals → (o : Option GlobalVariable) → slice_get globals n ≡ o
    → option_map type_and_initial o ≡ Some (t, old) → slice_get values n ≡ Some v
    → option_map type_and_initial (slice_get (each_with global_with globals values) n) ≡ Some (t, v)
declared_by globals values n t old v long None there declared given = absurd (cc)
declared_by globals values n t old v long (Some g) there declared given =
    let b = begun_at globals values n g long there in
    let type : g.value_type ≡ t = (some_pair_parts g.value_type t g.initial old declared).0 in
    let value : b.value ≡ v = let has = b.given in cc in
    ap (option_map type_and_initial) b.is
    ∙ (ap (λ (u : IlType). Some (u, b.value)) type ∙ ap (λ (w : Value). Some (t, w)) value)

declared : (globals : List GlobalVariable) (values : List Value) (variable : SlotOwner) (t : IlType) (old v : Value)
    → length values ≡ length globals → IsDeclared globals variable t old → BeginsAs values variable v
    → IsDeclared (each_with global_with globals values) variable t v
declared globals values (Global n) t old v long is begins =
    declared_by globals values n t old v long (slice_get globals n) refl is begins
declared globals values (Own instance name) t old v long is begins = tt

abbrev AreDeclared : List GlobalVariable → List Slot → Type 0
AreDeclared globals slots = AllByRecursion (λ s. IsDeclared globals s.variable s.value_type s.initial) slots

all_declared : (globals : List GlobalVariable) (values : List Value) (slots : List Slot) (firsts : List Value)
    → length values ≡ length globals → AreDeclared globals slots
    → AllZip (λ slot value. BeginsAs values slot.variable value) slots firsts
    → AreDeclared (each_with global_with globals values) (each_with slot_with slots firsts)
all_declared globals values [] firsts long are begin = tt
all_declared globals values (s ∷ slots) [] long are begin = absurd begin
all_declared globals values (s ∷ slots) (v ∷ firsts) long are begin = (
  declared globals values s.variable s.value_type s.initial v long are.0 begin.0,
  all_declared globals values slots firsts long are.1 begin.1,
)

keeps : (functions : List PlannedFunction) (buses : ℕ) (globals : List Value) (task : PlannedTask) (begins : Lasting)
    → KeepsLimits functions task → MayBeginTask buses globals task begins
    → KeepsLimits functions (task_with task begins)
keeps functions buses globals task begins k may =
    let values = begins.slots in
    let many = length_with slot_with task.slots values in
    let types = map_with slot_with (λ (s : Slot). s.value_type) (λ s v. refl) task.slots values in
    let long = as_long values (types_of task) may.typed ∙ length_map (λ (s : Slot). s.value_type) task.slots in
    let firsts = map_given slot_with (λ (s : Slot). s.initial) (λ s v. refl) task.slots values long in
    record {
      most_instances = k.most_instances;
      most_slots = let most = k.most_slots in omega arith;
      most_blocks = k.most_blocks;
      most_constants = k.most_constants;
      most_words = k.most_words;
      lines = subst (λ (n : ℕ). AreLinesOf (record {
        slots = n;
        kinds = kinds_of task;
        inputs = inputs_of functions;
      }) (all_lines task.instances)) (sym many) k.lines;
      constants = k.constants;
      initials = subst (λ (vs : List Value). AreOf vs (map (λ (s : Slot). s.value_type)
          (each_with slot_with task.slots values))) (sym firsts)
          (subst (λ (ts : List IlType). AreOf values ts) (sym types) may.typed);
      ordered = subst AreOrdered
          (sym (map_with slot_with (λ (s : Slot). s.variable) (λ s v. refl) task.slots values)) k.ordered;
      interval = k.interval;
    }

all_keep : (functions : List PlannedFunction) (buses : ℕ) (globals : List Value) (tasks : List PlannedTask)
    (begins : List Lasting) → AllByRecursion (KeepsLimits functions) tasks
    → AllZip (MayBeginTask buses globals) tasks begins
    → AllByRecursion (KeepsLimits functions) (each_with task_with tasks begins)
all_keep functions buses globals [] begins all may = tt
all_keep functions buses globals (task ∷ tasks) [] all may = absurd may
all_keep functions buses globals (task ∷ tasks) (first ∷ begins) all may =
    (keeps functions buses globals task first all.0 may.0, all_keep functions buses globals tasks begins all.1 may.1)

all_tasks : (globals : List GlobalVariable) (values : List Value) (buses : ℕ) (tasks : List PlannedTask)
    (begins : List Lasting) → length values ≡ length globals → AllByRecursion (IsTaskOf globals) tasks
    → AllZip (MayBeginTask buses values) tasks begins
    → AllByRecursion (IsTaskOf (each_with global_with globals values)) (each_with task_with tasks begins)
all_tasks globals values buses [] begins long all may = tt
all_tasks globals values buses (task ∷ tasks) [] long all may = absurd may
all_tasks globals values buses (task ∷ tasks) (first ∷ begins) long all may = (
  (
    trigger globals values task.activation long all.0.0,
    all_declared globals values task.slots first.slots long all.0.1 may.0.same,
  ),
  all_tasks globals values buses tasks begins long all.1 may.1,
)

all_states : (buses : ℕ) (globals : List Value) (tasks : List PlannedTask) (begins : List Lasting)
    → AllZip (MayBeginTask buses globals) tasks begins
    → AllByRecursion (HasStates buses) (each_with task_with tasks begins)
all_states buses globals [] begins may = tt
all_states buses globals (task ∷ tasks) [] may = absurd may
all_states buses globals (task ∷ tasks) (first ∷ begins) may =
    (may.0.blocks, all_states buses globals tasks begins may.1)

-- ---- the plan

pub begun_lawful : (plan : Planned) (globals : List Value) (begins : List Lasting) → IsLawful plan
    → MayBegin plan globals begins → IsLawful (plan_with plan globals begins)
begun_lawful plan globals begins lawful may =
    let long = as_long globals (map (λ (g : GlobalVariable). g.value_type) plan.globals) may.typed
    ∙ length_map (λ (g : GlobalVariable). g.value_type) plan.globals in
    let types = map_with global_with (λ (g : GlobalVariable). g.value_type) (λ g v. refl) plan.globals globals in
    let firsts = map_given global_with (λ (g : GlobalVariable). g.initial) (λ g v. refl) plan.globals globals long in
    let many = length_with task_with plan.tasks begins in
    record {
      text = lawful.text;
      wiring = lawful.wiring;
      most_tasks = let most = lawful.most_tasks in omega arith;
      located = located (wiring_of plan) plan.globals globals lawful.located;
      apart = apart plan.globals globals lawful.apart;
      initials = subst (λ (vs : List Value). AreOf vs (map (λ (g : GlobalVariable). g.value_type)
          (each_with global_with plan.globals globals))) (sym firsts)
          (subst (λ (ts : List IlType). AreOf globals ts) (sym types) may.typed);
      most_functions = lawful.most_functions;
      functions = lawful.functions;
      depths = lawful.depths;
      limits = all_keep plan.functions plan.buses globals plan.tasks begins lawful.limits may.tasks;
      tasks = all_tasks plan.globals globals plan.buses plan.tasks begins long lawful.tasks may.tasks;
      states = all_states plan.buses globals plan.tasks begins may.tasks;
    }

-- there is a value for each
pub globals_long : (plan : Planned) (globals : List Value) (begins : List Lasting) → MayBegin plan globals begins
    → length globals ≡ length plan.globals
globals_long plan globals begins may =
    as_long globals (map (λ (g : GlobalVariable). g.value_type) plan.globals) may.typed
    ∙ length_map (λ (g : GlobalVariable). g.value_type) plan.globals

blocks_long : (buses : ℕ) (blocks others : List Block) (kinds : List BlockKind)
    → AllZip (IsBlockOf buses) blocks kinds → AllZip (IsBlockOf buses) others kinds → length blocks ≡ length others
blocks_long buses blocks others kinds all also =
    sym (AllZip-long (IsBlockOf buses) blocks kinds all) ∙ AllZip-long (IsBlockOf buses) others kinds also

tasks_fit : (buses : ℕ) (globals : List Value) (tasks : List PlannedTask) (begins : List Lasting)
    → AllByRecursion (HasStates buses) tasks → AllZip (MayBeginTask buses globals) tasks begins
    → AllZip FitsTask tasks begins
tasks_fit buses globals [] [] have may = tt
tasks_fit buses globals [] (first ∷ begins) have may = absurd may
tasks_fit buses globals (task ∷ tasks) [] have may = absurd may
tasks_fit buses globals (task ∷ tasks) (first ∷ begins) have may = (
  record {
    values = as_long first.slots (types_of task) may.0.typed ∙ length_map (λ (s : Slot). s.value_type) task.slots;
    blocks = blocks_long buses first.blocks task.states (kinds_of task) may.0.blocks have.0;
  },
  tasks_fit buses globals tasks begins have.1 may.1,
)

pub all_fit : (plan : Planned) (globals : List Value) (begins : List Lasting) → IsLawful plan
    → MayBegin plan globals begins → AllZip FitsTask plan.tasks begins
all_fit plan globals begins lawful may = tasks_fit plan.buses globals plan.tasks begins lawful.states may.tasks
