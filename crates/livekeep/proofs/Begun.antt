-- A plan may begin with kept values: each is of its variable's type, a slot of a global variable begins as that does, and
-- each port of a block instance has a value of its type.
use Rattle.std.proofs.Common.{◌≡◌, ℕ, Bool, true, false, List, [], ◌∷◌, map, Option, Some, None, option_map}
use Rattle.std.proofs.Common.{refl, sym, ap, ◌∙◌, subst}
use Rattle.std.specs.Prelude.{if◌then◌else◌, slice_get, unwrap_or, option_and_then}
use Rattle.std.specs.List.{AllByRecursion, AllZip}
use Rattle.std.proofs.lemmas.Option.{slice_get-map, some_pair_parts}
use Rattle.iltypes.specs.declared.value.IlType.{IlType}
use Rattle.iltypes.specs.declared.value.Value.{Value}
use Rattle.iltypes.specs.Slots.{is_of}
use Rattle.iltypes.specs.Values.{IsOf, AreOf}
use Rattle.iltypes.proofs.TypeTests.{holds_test}
use Rattle.ilblocks.specs.declared.port.Port.{Port}
use Rattle.ilblocks.specs.Calls.{Block, IsBlockOf, at_first}
use Rattle.ilblocks.specs.Ports.{ports_of, type_of}
use Rattle.ilblocks.proofs.Blocks.{at_first_typed}
use Rattle.ilplan.specs.declared.instance.FunctionBlock.{FunctionBlock}
use Rattle.ilplan.specs.declared.global.Global.{Global as GlobalVariable}
use Rattle.ilplan.specs.declared.slot.Slot.{Slot}
use Rattle.ilplan.specs.declared.slot.SlotOwner.{SlotOwner}
use Rattle.ilplan.specs.declared.slot.SlotOwner.TheVariants.{Global, Own}
use Rattle.ilplan.specs.Plans.{Planned, PlannedTask, KeepsLimits, IsLawful, IsDeclared, IsTaskOf, type_and_initial}
use Rattle.ilplan.specs.Beginnings.{BeginsAs, MayBeginTask, MayBegin}
use Rattle.livekeep.specs.KeptFiles.{KeptEntry}
use Rattle.livekeep.specs.KeptBlocks.{block_first, block_name, block_of, kept_block, kept_last, kept_port}
use Rattle.livekeep.specs.KeptBlocks.{kept_ports, kept_start, port_name}
use Rattle.livekeep.specs.KeptPlans.{is_trigger, global_first, first_in, slot_first, global_firsts}
use Rattle.livekeep.specs.KeptPlans.{task_first, task_firsts}
use Rattle.livekeep.specs.KeptValues.{fitting, kept_value, kept_under, own_name, global_name}

-- a value that fits, or the first one
fits : (type : IlType) (kept : Option Value) (initial : Value) → IsOf initial type
    → IsOf (unwrap_or (fitting type kept) initial) type
fits type None initial is = is
fits type (Some value) initial is =
    elim (is_of type value) as (λ (b : Bool). is_of type value ≡ b
    → IsOf (unwrap_or (if b then Some value else None) initial) type) [
      | true ↦ λ yes. holds_test type value yes
      | false ↦ λ no. is
    ] refl

global_fits : (text : List ℕ) (kept : List KeptEntry) (g : GlobalVariable) → IsOf g.initial g.value_type
    → IsOf (global_first text kept g) g.value_type
global_fits text kept g is =
    elim (is_trigger g.location) as (λ (b : Bool).
    IsOf (if b then g.initial else unwrap_or (kept_value kept (global_name text g) g.value_type) g.initial)
    g.value_type) [
      | true ↦ is
      | false ↦ fits g.value_type (kept_under kept (global_name text g)) g.initial is
    ]

globals_fit : (text : List ℕ) (kept : List KeptEntry) (globals : List GlobalVariable)
    → AreOf (map (λ g. g.initial) globals) (map (λ g. g.value_type) globals)
    → AreOf (map (global_first text kept) globals) (map (λ g. g.value_type) globals)
globals_fit text kept [] are = tt
globals_fit text kept (g ∷ globals) are = (global_fits text kept g are.0, globals_fit text kept globals are.1)

-- ---- slots

-- the value of a slot is of its type, and that of a global variable's slot is the global variable's
record Fits (plan : Planned) (kept : List KeptEntry) (type : IlType) (initial : Value) (variable : SlotOwner) : Type 0 where
  typed : IsOf (first_in plan kept type initial variable) type
  same : BeginsAs (global_firsts plan kept) variable (first_in plan kept type initial variable)

global_slot : (plan : Planned) (kept : List KeptEntry) (type : IlType) (initial : Value) (n : ℕ)
    → IsOf initial type → (o : Option GlobalVariable) → slice_get plan.globals n ≡ o
    → option_map type_and_initial o ≡ Some (type, initial) → Fits plan kept type initial (Global n)
global_slot plan kept type initial n is None there declared = absurd (cc)
global_slot plan kept type initial n is (Some g) there declared =
    let parts = some_pair_parts g.value_type type g.initial initial declared in
    let type_is = parts.0 in
    let initial_is = parts.1 in
    let own : IsOf g.initial g.value_type =
    subst (λ (t : IlType). IsOf g.initial t) (sym type_is)
    (subst (λ (v : Value). IsOf v type) (sym initial_is) is) in
    let first = global_first plan.text kept in
    let value : first_in plan kept type initial (Global n) ≡ first g =
    ap (λ (o : Option GlobalVariable). unwrap_or (option_map first o) initial) there in
    record {
      typed = subst (λ (v : Value). IsOf v type) (sym value)
          (subst (λ (t : IlType). IsOf (first g) t) type_is (global_fits plan.text kept g own));
      same = slice_get-map first plan.globals n ∙ (ap (option_map first) there ∙ ap Some (sym value));
    }

slot_fits : (plan : Planned) (kept : List KeptEntry) (type : IlType) (initial : Value) (variable : SlotOwner)
    → IsOf initial type → IsDeclared plan.globals variable type initial → Fits plan kept type initial variable
slot_fits plan kept type initial (Global n) is declared =
    global_slot plan kept type initial n is (slice_get plan.globals n) refl declared
slot_fits plan kept type initial (Own instance name) is declared =
    record { typed = fits type (kept_under kept (own_name plan.text instance name)) initial is; same = tt }

abbrev AreDeclared : List GlobalVariable → List Slot → Type 0
AreDeclared globals slots = AllByRecursion (λ s. IsDeclared globals s.variable s.value_type s.initial) slots

slots_typed : (plan : Planned) (kept : List KeptEntry) (slots : List Slot)
    → AreOf (map (λ s. s.initial) slots) (map (λ s. s.value_type) slots) → AreDeclared plan.globals slots
    → AreOf (map (slot_first plan kept) slots) (map (λ s. s.value_type) slots)
slots_typed plan kept [] are declared = tt
slots_typed plan kept (s ∷ slots) are declared = (
  (slot_fits plan kept s.value_type s.initial s.variable are.0 declared.0).typed,
  slots_typed plan kept slots are.1 declared.1,
)

slots_same : (plan : Planned) (kept : List KeptEntry) (slots : List Slot)
    → AreOf (map (λ s. s.initial) slots) (map (λ s. s.value_type) slots) → AreDeclared plan.globals slots
    → AllZip (λ slot value. BeginsAs (global_firsts plan kept) slot.variable value) slots
    (map (slot_first plan kept) slots)
slots_same plan kept [] are declared = tt
slots_same plan kept (s ∷ slots) are declared = (
  (slot_fits plan kept s.value_type s.initial s.variable are.0 declared.0).same,
  slots_same plan kept slots are.1 declared.1,
)

-- ---- block instances

fitting_typed : (type : IlType) (o : Option Value) (value : Value) → fitting type o ≡ Some value → IsOf value type
fitting_typed type None value e = absurd (cc)
fitting_typed type (Some kept) value e =
    (elim (is_of type kept) as (λ (b : Bool). is_of type kept ≡ b
    → (if b then Some kept else None) ≡ Some value → IsOf value type) [
      | true ↦ λ yes same. let is : kept ≡ value = cc in
          subst (λ (v : Value). IsOf v type) is (holds_test type kept yes)
      | false ↦ λ no same. absurd (cc)
    ]) refl e

module _ (kept : List KeptEntry) (buses : ℕ) (block : List ℕ) where
  abbrev types_of_them : List Port → List IlType
  types_of_them ports = map (λ port. type_of buses port.values) ports

  port_typed : (port : Port) (ports : List Port) (o : Option Value) (r : Option (List Value)) (values : List Value)
      → kept_port kept buses block port ≡ o → ((more : List Value) → r ≡ Some more → AreOf more (types_of_them ports))
      → option_and_then (λ value. option_map (λ more. value ∷ more) r) o ≡ Some values
      → AreOf values (types_of_them (port ∷ ports))
  port_typed port ports None r values here rest e = absurd (cc)
  port_typed port ports (Some value) None values here rest e = absurd (cc)
  port_typed port ports (Some value) (Some more) values here rest e =
      let same : value ∷ more ≡ values = cc in
      let typed = fitting_typed (type_of buses port.values) (kept_under kept (port_name block port)) value here in
      subst (λ (vs : List Value). AreOf vs (types_of_them (port ∷ ports))) same (typed, rest more refl)

  ports_typed : (ports : List Port) (values : List Value) → kept_ports kept buses block ports ≡ Some values
      → AreOf values (types_of_them ports)
  ports_typed [] values e =
      let same : [] ≡ values = cc in subst (λ (vs : List Value). AreOf vs []) same tt
  ports_typed (port ∷ ports) values e =
      port_typed port ports (kept_port kept buses block port) (kept_ports kept buses block ports) values refl
      (λ more is. ports_typed ports more is) e

-- the ports of an instance that was kept
pub state_ports : (o : Option (List Value)) (l : Option Bool) (s : Option ℕ) (state : Block)
    → option_and_then (λ ports. option_and_then (λ last. option_map (block_of ports last) s) l) o ≡ Some state
    → o ≡ Some state.ports
state_ports None l s state e = absurd (cc)
state_ports (Some ports) None s state e = absurd (cc)
state_ports (Some ports) (Some last) None state e = absurd (cc)
state_ports (Some ports) (Some last) (Some start) state e =
    let same : block_of ports last start ≡ state = cc in ap (λ (b : Block). Some b.ports) same

block_typed : (plan : Planned) (kept : List KeptEntry) (b : FunctionBlock) (o : Option Block)
    → kept_block plan kept b ≡ o → IsBlockOf plan.buses (unwrap_or o (at_first b.kind)) b.kind
block_typed plan kept b None is = at_first_typed plan.buses b.kind
block_typed plan kept b (Some state) is =
    let name = block_name plan.text b in
    ports_typed kept plan.buses name (ports_of b.kind) state.ports
    (state_ports (kept_ports kept plan.buses name (ports_of b.kind)) (kept_last kept name)
    (kept_start kept name b.kind) state is)

blocks_typed : (plan : Planned) (kept : List KeptEntry) (blocks : List FunctionBlock)
    → AllZip (IsBlockOf plan.buses) (map (block_first plan kept) blocks) (map (λ b. b.kind) blocks)
blocks_typed plan kept [] = tt
blocks_typed plan kept (b ∷ blocks) =
    (block_typed plan kept b (kept_block plan kept b) refl, blocks_typed plan kept blocks)

-- ---- tasks

tasks_fit : (plan : Planned) (kept : List KeptEntry) (tasks : List PlannedTask)
    → AllByRecursion (KeepsLimits plan.functions) tasks → AllByRecursion (IsTaskOf plan.globals) tasks
    → AllZip (MayBeginTask plan.buses (global_firsts plan kept)) tasks (map (task_first plan kept) tasks)
tasks_fit plan kept [] limits declared = tt
tasks_fit plan kept (task ∷ tasks) limits declared = (
  record {
    typed = slots_typed plan kept task.slots limits.0.initials declared.0.1;
    same = slots_same plan kept task.slots limits.0.initials declared.0.1;
    blocks = blocks_typed plan kept task.blocks;
  },
  tasks_fit plan kept tasks limits.1 declared.1,
)

pub may_begin : (plan : Planned) (kept : List KeptEntry) → IsLawful plan
    → MayBegin plan (global_firsts plan kept) (task_firsts plan kept)
may_begin plan kept lawful =
    record {
      typed = globals_fit plan.text kept plan.globals lawful.initials;
      tasks = tasks_fit plan kept plan.tasks lawful.limits lawful.tasks;
    }
