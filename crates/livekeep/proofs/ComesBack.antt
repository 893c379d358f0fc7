-- What is kept comes back: a plan that begins with it begins as it was.
use Rattle.std.proofs.Common.{◌≡◌, ◌≤◌, ℕ, pos, List, [], ◌∷◌, ◌++◌, map, Bool, true, false, Option, Some, None, refl}
use Rattle.std.proofs.Common.{sym, ap, ◌∙◌, option_map, arith}
use Rattle.std.specs.Prelude.{bytes_eq, codes, find, if◌then◌else◌, min, option_and_then, slice_get, unwrap_or}
use Rattle.std.specs.List.{AllByRecursion, AllZip, IsDistinct}
use Rattle.std.proofs.lemmas.Int.{ints}
use Rattle.std.proofs.lemmas.Option.{slice_get-map}
use Rattle.std.proofs.lemmas.Slice.Eq.{bytes_eq-Decides}
use Rattle.iltypes.specs.declared.value.IlType.{IlType}
use Rattle.iltypes.specs.declared.value.IlType.TheVariants as types
use Rattle.iltypes.specs.declared.value.Value.{Value}
use Rattle.iltypes.specs.declared.value.Value.TheVariants as values
use Rattle.iltypes.specs.Values.{AreOf, IsOf}
use Rattle.iltypes.proofs.TypeTests.{test_holds}
use Rattle.ilblocks.specs.declared.kind.BlockKind.{BlockKind}
use Rattle.ilblocks.specs.declared.kind.BlockKind.TheVariants as kinds
use Rattle.ilblocks.specs.declared.port.Port.{Port}
use Rattle.ilblocks.specs.Calls.{Block, IsBlockOf, at_first, natural_of, number_or_zero, truth_of}
use Rattle.ilblocks.specs.Ports.{ports_of, type_of}
use Rattle.ilblocks.specs.Stores.{Lasting}
use Rattle.ilblocks.proofs.Ports.{number_in}
use Rattle.ilplan.specs.declared.global.Global.{Global as GlobalVariable}
use Rattle.ilplan.specs.declared.instance.FunctionBlock.{FunctionBlock}
use Rattle.ilplan.specs.declared.slot.Slot.{Slot}
use Rattle.ilplan.specs.declared.slot.SlotOwner.{SlotOwner}
use Rattle.ilplan.specs.declared.slot.SlotOwner.TheVariants.{Global, Own}
use Rattle.ilplan.specs.Beginnings.{BeginsAs, MayBeginTask, plan_with}
use Rattle.ilplan.specs.Plans.{Planned, PlannedTask}
use Rattle.livekeep.specs.KeptBlocks.{block_entries, block_first, block_name, block_of, kept_last, kept_ports}
use Rattle.livekeep.specs.KeptBlocks.{kept_start, kept_state, moment_value, moments, part_name, port_entries, port_name}
use Rattle.livekeep.specs.KeptBlocks.{start_entries, state_entries}
use Rattle.livekeep.specs.KeptFiles.{KeptEntry, entry_of, most_number}
use Rattle.livekeep.specs.KeptPlans.{begun_plan, first_in, global_first, is_trigger, slot_first, task_first}
use Rattle.livekeep.specs.KeptStates.{entries_by, entries_for, entries_of, global_entries, instance_entries}
use Rattle.livekeep.specs.KeptStates.{slot_entries, task_entries, tasks_entries}
use Rattle.livekeep.specs.KeptValues.{fitting, global_name, kept_under, kept_value, own_name}
use Rattle.livekeep.specs.Returns.{HasKeptStart, HasKeptStarts, IsKeptStart, IsUntouched, MayComeBack}
use Rattle.livekeep.proofs.WrittenFiles.{apart_parts, same_name}

cons_same : {X : Type 0} (x y : X) (xs ys : List X) → x ≡ y → xs ≡ ys → x ∷ xs ≡ y ∷ ys
cons_same x y xs ys p q = λ i. p i ∷ q i

all_parts : {X : Type 0} (P : X → Type 0) (xs ys : List X) → AllByRecursion P (xs ++ ys)
    → AllByRecursion P xs × AllByRecursion P ys
all_parts P [] ys all = (tt, all)
all_parts P (x ∷ xs) ys all = let rest = all_parts P xs ys all.1 in ((all.0, rest.0), rest.1)

-- ---- each value is found under its name, where no name comes twice

abbrev IsFound : List KeptEntry → KeptEntry → Type 0
IsFound kept entry = kept_under kept entry.name ≡ Some entry.value

abbrev under_first : KeptEntry → List KeptEntry → List ℕ → Bool → Option Value
under_first first rest name b =
    option_map (λ (e : KeptEntry). e.value)
    (if b then Some first else find (λ (e : KeptEntry). bytes_eq e.name name) rest)

later_found : (first : KeptEntry) (rest entries : List KeptEntry)
    → AllByRecursion (λ other. same_name first other ≡ false) entries → AllByRecursion (IsFound rest) entries
    → AllByRecursion (IsFound (first ∷ rest)) entries
later_found first rest [] apart found = tt
later_found first rest (entry ∷ entries) apart found = (
  ap (λ (b : Bool). under_first first rest entry.name b) apart.0 ∙ found.0,
  later_found first rest entries apart.1 found.1,
)

all_found : (all : List KeptEntry) → IsDistinct same_name all → AllByRecursion (IsFound all) all
all_found [] distinct = tt
all_found (first ∷ rest) distinct =
    let parts = apart_parts first rest distinct in (
      ap (λ (b : Bool). under_first first rest first.name b) ((bytes_eq-Decides first.name first.name).1 refl),
      later_found first rest rest parts.0 (all_found rest parts.1),
    )

module _ (kept : List KeptEntry) where
  value_back : (name : List ℕ) (type : IlType) (value : Value) → kept_under kept name ≡ Some value → IsOf value type
      → kept_value kept name type ≡ Some value
  value_back name type value found is =
      ap (fitting type) found
      ∙ ap (λ (b : Bool). if b then Some value else None) (test_holds type value is)

  -- ---- global variables

  global_back : (text : List ℕ) (g : GlobalVariable) (value : Value)
      → AllByRecursion (IsFound kept) (entries_for text g value) → IsOf value g.value_type → IsUntouched g value
      → global_first text kept g ≡ value
  global_back text g value found is untouched =
      (elim (is_trigger g.location) as (λ (b : Bool). is_trigger g.location ≡ b
      → AllByRecursion (IsFound kept) (if b then [] else entry_of (global_name text g) value ∷ [])
      → (if b then g.initial else unwrap_or (kept_value kept (global_name text g) g.value_type) g.initial) ≡ value) [
        | true ↦ λ yes none. sym (untouched yes)
        | false ↦ λ no one.
            ap (λ (o : Option Value). unwrap_or o g.initial)
            (value_back (global_name text g) g.value_type value one.0 is)
      ]) refl found

  globals_back : (text : List ℕ) (globals : List GlobalVariable) (vs : List Value)
      → AllByRecursion (IsFound kept) (global_entries text globals vs) → AreOf vs (map (λ g. g.value_type) globals)
      → AllZip IsUntouched globals vs → map (global_first text kept) globals ≡ vs
  globals_back text [] [] found are untouched = refl
  globals_back text [] (v ∷ vs) found are untouched = absurd are
  globals_back text (g ∷ globals) [] found are untouched = absurd are
  globals_back text (g ∷ globals) (v ∷ vs) found are untouched =
      let parts = all_parts (IsFound kept) (entries_for text g v) (global_entries text globals vs) found in
      cons_same (global_first text kept g) v (map (global_first text kept) globals) vs
      (global_back text g v parts.0 are.0 untouched.0) (globals_back text globals vs parts.1 are.1 untouched.1)

  -- ---- slots

  slot_back : (plan : Planned) (globals : List Value) → map (global_first plan.text kept) plan.globals ≡ globals
      → (type : IlType) (initial value : Value) (variable : SlotOwner)
      → AllByRecursion (IsFound kept) (entries_by plan.text variable value) → IsOf value type
      → BeginsAs globals variable value → first_in plan kept type initial variable ≡ value
  slot_back plan globals same type initial value (Global n) found is begins =
      ap (λ (o : Option Value). unwrap_or o initial)
      (sym (slice_get-map (global_first plan.text kept) plan.globals n)
      ∙ (ap (λ (vs : List Value). slice_get vs n) same ∙ begins))
  slot_back plan globals same type initial value (Own instance name) found is begins =
      ap (λ (o : Option Value). unwrap_or o initial)
      (value_back (own_name plan.text instance name) type value found.0 is)

  slots_back : (plan : Planned) (globals : List Value) → map (global_first plan.text kept) plan.globals ≡ globals
      → (slots : List Slot) (vs : List Value) → AllByRecursion (IsFound kept) (slot_entries plan.text slots vs)
      → AreOf vs (map (λ s. s.value_type) slots)
      → AllZip (λ slot value. BeginsAs globals slot.variable value) slots vs
      → map (slot_first plan kept) slots ≡ vs
  slots_back plan globals same [] [] found are begin = refl
  slots_back plan globals same [] (v ∷ vs) found are begin = absurd are
  slots_back plan globals same (s ∷ slots) [] found are begin = absurd are
  slots_back plan globals same (s ∷ slots) (v ∷ vs) found are begin =
      let parts = all_parts (IsFound kept) (entries_by plan.text s.variable v) (slot_entries plan.text slots vs)
      found in
      cons_same (slot_first plan kept s) v (map (slot_first plan kept) slots) vs
      (slot_back plan globals same s.value_type s.initial v s.variable parts.0 are.0 begin.0)
      (slots_back plan globals same slots vs parts.1 are.1 begin.1)

  -- ---- block instances

  ports_back : (buses : ℕ) (block : List ℕ) (ports : List Port) (vs : List Value)
      → AllByRecursion (IsFound kept) (port_entries block ports vs)
      → AreOf vs (map (λ port. type_of buses port.values) ports) → kept_ports kept buses block ports ≡ Some vs
  ports_back buses block [] [] found are = refl
  ports_back buses block [] (v ∷ vs) found are = absurd are
  ports_back buses block (port ∷ ports) [] found are = absurd are
  ports_back buses block (port ∷ ports) (v ∷ vs) found are =
      ap (λ (o : Option Value). option_and_then (λ value. option_map (λ more. value ∷ more)
      (kept_ports kept buses block ports)) o)
      (value_back (port_name block port) (type_of buses port.values) v found.0 are.0)
      ∙ ap (λ (o : Option (List Value)). option_map (λ more. v ∷ more) o)
      (ports_back buses block ports vs found.1 are.1)

  timed : (start : ℕ) → start ≤ most_number → min start most_number ≡ start
  timed start le = omega (arith, le)

  timer_back : (block : List ℕ) (start : ℕ) → AllByRecursion (IsFound kept) (start_entries block kinds.Ton start)
      → start ≤ most_number → kept_start kept block kinds.Ton ≡ Some start
  timer_back block start found le =
      let is : IsOf (moment_value start) moments =
      number_in (pos 0) (pos most_number) (pos (min start most_number)) (omega (arith, ints)) (omega (arith, ints))
      (omega (arith, ints)) in
      ap (λ (o : Option Value). option_map (λ value. natural_of (number_or_zero (Some value))) o)
      (value_back (part_name block (codes "start")) moments (moment_value start) found.0 is)
      ∙ ap Some (timed start le)

  start_back : (block : List ℕ) (kind : BlockKind) (start : ℕ)
      → AllByRecursion (IsFound kept) (start_entries block kind start) → IsKeptStart kind start
      → kept_start kept block kind ≡ Some start
  start_back block kinds.Ton start found le = timer_back block start found le
  start_back block kinds.RTrig start found zero = ap Some (sym zero)
  start_back block kinds.Ctu start found zero = ap Some (sym zero)
  start_back block kinds.GearLevel start found zero = ap Some (sym zero)
  start_back block kinds.GearDo start found zero = ap Some (sym zero)
  start_back block kinds.GearSet start found zero = ap Some (sym zero)
  start_back block kinds.GearPair start found zero = ap Some (sym zero)
  start_back block kinds.GearAsk start found zero = ap Some (sym zero)
  start_back block kinds.GearRead start found zero = ap Some (sym zero)
  start_back block kinds.DevDo start found zero = ap Some (sym zero)
  start_back block kinds.DevScheme start found zero = ap Some (sym zero)
  start_back block kinds.DevAsk start found zero = ap Some (sym zero)

  abbrev last_entries : List ℕ → BlockKind → Block → List KeptEntry
  last_entries block kind state =
      entry_of (part_name block (codes "last")) (values.Bool state.before) ∷ start_entries block kind state.start

  state_back : (buses : ℕ) (block : List ℕ) (kind : BlockKind) (state : Block)
      → AllByRecursion (IsFound kept) (state_entries block kind state) → IsBlockOf buses state kind
      → IsKeptStart kind state.start → kept_state kept buses block kind ≡ Some state
  state_back buses block kind state found is kept_start_is =
      let parts = all_parts (IsFound kept) (port_entries block (ports_of kind) state.ports)
      (last_entries block kind state) found in
      let ports = ports_back buses block (ports_of kind) state.ports parts.0 is in
      let last : kept_last kept block ≡ Some state.before =
      ap (λ (o : Option Value). option_map (λ value. truth_of (Some value)) o)
      (value_back (part_name block (codes "last")) types.Bool (values.Bool state.before) parts.1.0 tt) in
      let start = start_back block kind state.start parts.1.1 kept_start_is in
      λ i. option_and_then
      (λ (vs : List Value). option_and_then (λ (l : Bool). option_map (block_of vs l) (start i)) (last i)) (ports i)

  blocks_back : (plan : Planned) (blocks : List FunctionBlock) (states : List Block)
      → AllByRecursion (IsFound kept) (instance_entries plan.text blocks states)
      → AllZip (IsBlockOf plan.buses) states (map (λ b. b.kind) blocks) → AllZip HasKeptStart blocks states
      → map (block_first plan kept) blocks ≡ states
  blocks_back plan [] [] found are starts = refl
  blocks_back plan [] (state ∷ states) found are starts = absurd are
  blocks_back plan (b ∷ blocks) [] found are starts = absurd are
  blocks_back plan (b ∷ blocks) (state ∷ states) found are starts =
      let parts = all_parts (IsFound kept) (block_entries plan.text b state)
      (instance_entries plan.text blocks states) found in
      cons_same (block_first plan kept b) state (map (block_first plan kept) blocks) states
      (ap (λ (o : Option Block). unwrap_or o (at_first b.kind))
      (state_back plan.buses (block_name plan.text b) b.kind state parts.0 are.0 starts.0))
      (blocks_back plan blocks states parts.1 are.1 starts.1)

  -- ---- tasks

  task_back : (plan : Planned) (globals : List Value) → map (global_first plan.text kept) plan.globals ≡ globals
      → (task : PlannedTask) (lasting : Lasting) → AllByRecursion (IsFound kept) (task_entries plan.text task lasting)
      → MayBeginTask plan.buses globals task lasting → HasKeptStarts task lasting
      → task_first plan kept task ≡ lasting
  task_back plan globals same task lasting found may starts =
      let parts = all_parts (IsFound kept) (slot_entries plan.text task.slots lasting.slots)
      (instance_entries plan.text task.blocks lasting.blocks) found in
      let slots = slots_back plan globals same task.slots lasting.slots parts.0 may.typed may.same in
      let blocks = blocks_back plan task.blocks lasting.blocks parts.1 may.blocks starts in
      λ i. record { slots = slots i; blocks = blocks i }

  tasks_back : (plan : Planned) (globals : List Value) → map (global_first plan.text kept) plan.globals ≡ globals
      → (tasks : List PlannedTask) (lasting : List Lasting)
      → AllByRecursion (IsFound kept) (tasks_entries plan.text tasks lasting)
      → AllZip (MayBeginTask plan.buses globals) tasks lasting → AllZip HasKeptStarts tasks lasting
      → map (task_first plan kept) tasks ≡ lasting
  tasks_back plan globals same [] [] found may starts = refl
  tasks_back plan globals same [] (l ∷ lasting) found may starts = absurd may
  tasks_back plan globals same (task ∷ tasks) [] found may starts = absurd may
  tasks_back plan globals same (task ∷ tasks) (l ∷ lasting) found may starts =
      let parts = all_parts (IsFound kept) (task_entries plan.text task l) (tasks_entries plan.text tasks lasting)
      found in
      cons_same (task_first plan kept task) l (map (task_first plan kept) tasks) lasting
      (task_back plan globals same task l parts.0 may.0 starts.0)
      (tasks_back plan globals same tasks lasting parts.1 may.1 starts.1)

pub entries_back : (plan : Planned) (globals : List Value) (lasting : List Lasting) → MayComeBack plan globals lasting
    → begun_plan (entries_of plan globals lasting) plan ≡ plan_with plan globals lasting
entries_back plan globals lasting may =
    let kept = entries_of plan globals lasting in
    let parts = all_parts (IsFound kept) (global_entries plan.text plan.globals globals)
    (tasks_entries plan.text plan.tasks lasting) (all_found kept may.distinct) in
    let same = globals_back kept plan.text plan.globals globals parts.0 may.typed.typed may.triggers in
    let tasks = tasks_back kept plan globals same plan.tasks lasting parts.1 may.typed.tasks may.starts in
    λ i. plan_with plan (same i) (tasks i)
