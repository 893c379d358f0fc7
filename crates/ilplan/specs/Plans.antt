-- Plans as contracts see them, and what holds of each task (profile).
use Rattle.std.specs.Prelude.{◌≡◌, ℕ, pos, ◌+◌, ◌<◌, ◌≤◌, ◌==◌, List, [], ◌∷◌, ◌++◌, flat_map, map, length, sum_by}
use Rattle.std.specs.Prelude.{Bool, true, false, ⊤}
use Rattle.std.specs.Prelude.{Option, None, Some, IfSome, slice_get, option_and_then, option_map, if◌then◌else◌}
use Rattle.std.specs.Prelude.{All, AllPairs, Any, ◌≤ℤ◌, IsSomeAnd}
use Rattle.std.specs.List.{AllByRecursion, AllZip, list_any}
use Rattle.limits.specs.Limits as limits
use Rattle.iltypes.specs.declared.value.IlType.{IlType}
use Rattle.iltypes.specs.declared.value.IlType.TheVariants as types
use Rattle.iltypes.specs.declared.value.Value.{Value}
use Rattle.iltypes.specs.declared.value.Value.TheVariants as values
use Rattle.iltypes.specs.Values.{IsOf, AreOf}
use Rattle.wordlines.specs.declared.sources.BoundSource.{BoundSource}
use Rattle.wordlines.specs.declared.tries.BusTries.{BusTries}
use Rattle.wordlines.specs.Wirings.{Wiring, IsAt, IsWithinLimits}
use Rattle.ilsource.specs.declared.instruction.Instruction.{Instruction}
use Rattle.ilsource.specs.declared.instruction.Instruction.TheVariants as instructions
use Rattle.ilsource.specs.declared.instruction.Line.{Line}
use Rattle.ilsource.specs.declared.operand.Operand.{Operand}
use Rattle.ilsource.specs.declared.operand.Operand.TheVariants.{Name as Named, Constant}
use Rattle.ilsource.specs.declared.uses.Purpose.{Purpose}
use Rattle.ilsource.specs.declared.uses.Purpose.TheVariants.{Read, Write, Call, Pass, Invoke}
use Rattle.ilsource.specs.declared.uses.Use.{Use}
use Rattle.ilsource.specs.Trees as trees
use Rattle.ilsource.specs.Uses.{uses_in}
use Rattle.ilsource.specs.Words.{words_of_lines, AreShallow}
use Rattle.ilsource.specs.declared.name.Name.{Name}
use Rattle.ilsource.specs.Names.{text_of}
use Rattle.ilblocks.specs.TaskKind.{TaskKind}
use Rattle.ilblocks.specs.TaskKind.TheVariants as kinds
use Rattle.ilblocks.specs.declared.kind.BlockKind.{BlockKind}
use Rattle.ilblocks.specs.Calls.{Block, IsBlockOf}
use Rattle.ilblocks.specs.Ports.{ports_of}
use Rattle.ilblocks.specs.Stores.{Shape, blocks_at_first}
use Rattle.ilplan.specs.declared.activation.Activation.{Activation}
use Rattle.ilplan.specs.declared.activation.Activation.TheVariants.{Cyclic, Event}
use Rattle.ilplan.specs.declared.global.Global.{Global as GlobalVariable}
use Rattle.ilplan.specs.declared.global.Location.{Location}
use Rattle.ilplan.specs.declared.global.Location.TheVariants.{Level, GearAnswer, DeviceAnswer, Information, Count}
use Rattle.ilplan.specs.declared.global.Location.TheVariants.{Trigger}
use Rattle.ilplan.specs.declared.instance.FunctionBlock.{FunctionBlock}
use Rattle.ilplan.specs.declared.slot.Slot.{Slot}
use Rattle.ilplan.specs.declared.slot.SlotOwner.{SlotOwner}
use Rattle.ilplan.specs.declared.slot.SlotOwner.TheVariants.{Global, Own}
use Rattle.ilplan.specs.declared.place.Place.{Place}
use Rattle.ilplan.specs.declared.place.Place.TheVariants as places
use Rattle.ilplan.specs.Constants.{each_once, constants_in}
use Rattle.ilplan.specs.Functions.{PlannedFunction, starting_values, slots_of_function, words_of_function}
use Rattle.ilplan.specs.Functions.{constants_of_function, those_in, used_from, depths_from}

-- the kind of a task by what starts it: a cyclic one by the clock, an event task by an event
abbrev pub task_kind : Activation → TaskKind
task_kind (Cyclic interval) = kinds.Cyclic
task_kind (Event trigger) = kinds.Event

-- no program stores to what is located there: all but the levels of control gear
abbrev pub is_input : Location → Bool
is_input (Level bus address) = false
is_input _ = true

-- a program instance: its name, and its lines over places in a store
pub record PlannedInstance : Type 0 where
  pub name : Name
  pub lines : List (Line Place ℕ)

-- a task: its name's bytes, what starts it, its priority (0 is the first), its variables, its block instances, what each
-- of these keeps before the first scan, its constants, its program instances
pub record PlannedTask : Type 0 where
  pub name : List ℕ
  pub activation : Activation
  pub priority : ℕ
  pub slots : List Slot
  pub blocks : List FunctionBlock
  pub states : List Block
  pub constants : List Value
  pub instances : List PlannedInstance

-- a plan: the text that its names and places are of, the number of buses, the sources of events that are bound, what is
-- said of the attempts of buses, the global variables, the functions in declared order, the tasks
pub record Planned : Type 0 where
  pub text : List ℕ
  pub buses : ℕ
  pub sources : List BoundSource
  pub tries : List BusTries
  pub globals : List GlobalVariable
  pub functions : List PlannedFunction
  pub tasks : List PlannedTask

-- the task of these parts
abbrev pub task_in : List ℕ → Activation → ℕ → List Slot → List FunctionBlock → List Block → List Value
    → List PlannedInstance → PlannedTask
task_in name activation priority slots blocks states constants instances =
    record {
      name = name;
      activation = activation;
      priority = priority;
      slots = slots;
      blocks = blocks;
      states = states;
      constants = constants;
      instances = instances;
    }

-- the same, with each block instance as it is before its first call
abbrev pub task_of : List ℕ → Activation → ℕ → List Slot → List FunctionBlock → List Value → List PlannedInstance
    → PlannedTask
task_of name activation priority slots blocks constants instances =
    task_in name activation priority slots blocks (blocks_at_first (map (λ b. b.kind) blocks)) constants instances

-- the plan of these parts
abbrev pub plan_of : List ℕ → ℕ → List BoundSource → List BusTries → List GlobalVariable → List PlannedFunction
    → List PlannedTask → Planned
plan_of text buses sources tries globals functions tasks =
    record {
      text = text;
      buses = buses;
      sources = sources;
      tries = tries;
      globals = globals;
      functions = functions;
      tasks = tasks;
    }

-- what the plan's binding says
abbrev pub wiring_of : Planned → Wiring
wiring_of plan = record { buses = plan.buses; sources = plan.sources; tries = plan.tries }

-- the types of a task's slots, and their values before the first scan
abbrev pub types_of : PlannedTask → List IlType
types_of task = map (λ s. s.value_type) task.slots

abbrev pub initials_of : PlannedTask → List Value
initials_of task = map (λ s. s.initial) task.slots

-- the kinds of a task's block instances
abbrev pub kinds_of : PlannedTask → List BlockKind
kinds_of task = map (λ b. b.kind) task.blocks

-- the types of its variables and the kinds of its block instances, on so many buses
abbrev pub shape_of : ℕ → PlannedTask → Shape
shape_of buses task = record { buses = buses; slots = types_of task; kinds = kinds_of task }

-- all lines of the instances, in order
abbrev pub all_lines : List PlannedInstance → List (Line Place ℕ)
all_lines instances = flat_map (λ i. i.lines) instances

-- ---- functions of a task

-- each of these functions, in declared order, where the lines of the instances use it
abbrev pub used_by : List PlannedFunction → List PlannedInstance → List (Option PlannedFunction)
used_by functions instances = used_from (all_lines instances) 0 functions

abbrev pub used_functions : List PlannedFunction → PlannedTask → List (Option PlannedFunction)
used_functions functions task = used_by functions task.instances

-- those that the task uses
abbrev pub functions_of : List PlannedFunction → PlannedTask → List PlannedFunction
functions_of functions task = those_in (used_functions functions task)

-- the different constants of the instances' lines and then of these functions, in order of first use
abbrev pub constants_for : List PlannedInstance → List PlannedFunction → List Value
constants_for instances functions =
    each_once (constants_in (all_lines instances) ++ flat_map constants_of_function functions)

-- ---- what a task stores, and what scans by hand begin from

-- the use writes the slot of this number
abbrev pub is_write_to : ℕ → Purpose → Operand Place → Bool
is_write_to slot Write (Named (places.Slot number)) = number == slot
is_write_to slot purpose operand = false

abbrev pub writes_slot : ℕ → Use Place → Bool
writes_slot slot u = is_write_to slot u.purpose u.operand

-- some line of the task, reached or not, stores to the slot of this number, sets it or resets it
abbrev pub stores : PlannedTask → ℕ → Bool
stores task slot = list_any (writes_slot slot) (flat_map uses_in (all_lines task.instances))

-- the variable is the trigger of the event that starts the task
abbrev pub is_trigger_of : Activation → SlotOwner → Bool
is_trigger_of (Event trigger) (Global number) = trigger == number
is_trigger_of _ _ = false

-- what a scan by hand begins from: the initial value of each slot, but TRUE at the trigger of an event task, whether it
-- is one of the slots or not
abbrev pub first_value : PlannedTask → Slot → Value
first_value task slot = if is_trigger_of task.activation slot.variable then values.Bool true else slot.initial

abbrev pub first_values : PlannedTask → List Value
first_values task = map (first_value task) task.slots

-- ---- what lines may name

-- so many variables, ports of block instances of these kinds, and functions with so many inputs each
pub record Nameable : Type 0 where
  pub slots : ℕ
  pub kinds : List BlockKind
  pub inputs : List ℕ

abbrev pub inputs_of : List PlannedFunction → List ℕ
inputs_of functions = map (λ f. length f.inputs) functions

-- the lines of a task, among these functions
abbrev pub in_task : List PlannedFunction → PlannedTask → Nameable
in_task functions task =
    record { slots = length task.slots; kinds = kinds_of task; inputs = inputs_of functions }

-- the body of a function behind these: its own variables alone, no block instance, and the functions before it
abbrev pub in_body : List PlannedFunction → PlannedFunction → Nameable
in_body before f = record { slots = slots_of_function f; kinds = []; inputs = inputs_of before }

-- the block instance of this number has the port of this number
abbrev pub HasPort : Nameable → ℕ → ℕ → Type 0
HasPort names block port = IsSomeAnd (slice_get names.kinds block) (λ kind. port < length (ports_of kind))

-- a variable or a port, as operands and stores name them
abbrev pub HasPlace : Nameable → Place → Type 0
HasPlace names (places.Slot slot) = slot < names.slots
HasPlace names (places.Port block port) = HasPort names block port
HasPlace names (places.Block block) = ⊥
HasPlace names (places.Function number) = ⊥

-- what is named is in its table, and of the sort that may stand there: an operand is a constant, a variable or a port, a
-- variable or a port is written, a block instance is called, an argument is given to a port, and a function is invoked
abbrev pub HasOperand : Nameable → Purpose → Operand Place → Type 0
HasOperand names Read (Constant value) = ⊤
HasOperand names Read (Named place) = HasPlace names place
HasOperand names Write (Constant value) = ⊤
HasOperand names Write (Named place) = HasPlace names place
HasOperand names Call (Named (places.Block block)) = block < length names.kinds
HasOperand names Call operand = ⊥
HasOperand names Pass (Named (places.Port block port)) = HasPort names block port
HasOperand names Pass operand = ⊥
HasOperand names Invoke (Named (places.Function number)) = number < length names.inputs
HasOperand names Invoke operand = ⊥

abbrev pub HasUse : Nameable → Use Place → Type 0
HasUse names u = HasOperand names u.purpose u.operand

-- the function has so many inputs
abbrev pub Takes : Nameable → Place → ℕ → Type 0
Takes names (places.Function number) arguments = slice_get names.inputs number ≡ Some arguments
Takes names place arguments = ⊥

-- each call in a tree has an argument for each input of its function: what stands before it, and the operands
abbrev pub IsGiven : Nameable → trees.Tree Place → Type 0
IsGiven names (trees.Load at negated o) = ⊤
IsGiven names (trees.Reload t at negated o) = IsGiven names t
IsGiven names (trees.Apply t at operator o) = IsGiven names t
IsGiven names (trees.Transform t at function) = IsGiven names t
IsGiven names (trees.Deferred t at operator u close) = IsGiven names t × IsGiven names u
IsGiven names (trees.Call t at f os) = IsGiven names t × Takes names f (length os + 1)

-- each call in an instruction does, the current result being the first argument
abbrev pub GivesAll : Nameable → Option (Instruction Place ℕ) → Type 0
GivesAll names (Some (instructions.Deferred operator t close)) = IsGiven names t
GivesAll names (Some (instructions.Invoke f os)) = Takes names f (length os + 1)
GivesAll names _ = ⊤

-- lines name what is there, each where it may stand, give all arguments, and open no more parentheses than the limit
pub record AreLinesOf (names : Nameable) (lines : List (Line Place ℕ)) : Type 0 where
  pub named : AllByRecursion (HasUse names) (flat_map uses_in lines)
  pub given : AllByRecursion (λ line. GivesAll names line.instruction) lines
  pub shallow : AreShallow lines

-- ---- what holds of each function

-- a function behind these has one input at least, no more than the limit, a result, starting values of their types, and
-- lines of its own
pub record IsFunction (before : List PlannedFunction) (f : PlannedFunction) : Type 0 where
  pub some_input : 1 ≤ length f.inputs
  pub most_inputs : length f.inputs ≤ limits.most_inputs
  pub result : 1 ≤ length f.variables
  pub initials : AreOf (starting_values f) (map (λ v. v.value_type) f.variables)
  pub lines : AreLinesOf (in_body before f) f.lines

-- each of these is one behind those before it
abbrev pub AreFunctions : List PlannedFunction → List PlannedFunction → Type 0
AreFunctions before [] = ⊤
AreFunctions before (f ∷ fs) = IsFunction before f × AreFunctions (before ++ f ∷ []) fs

-- ---- what holds of each task

-- an interval has 1 millisecond or more
abbrev pub HasInterval : Activation → Type 0
HasInterval (Cyclic interval) = 1 ≤ interval
HasInterval (Event trigger) = ⊤

-- a global variable stands before those of greater number, and before those of programs
abbrev pub Precedes : SlotOwner → SlotOwner → Type 0
Precedes (Global one) (Global other) = one < other
Precedes (Own instance name) (Global other) = ⊥
Precedes one (Own instance name) = ⊤

-- each variable precedes all after it
abbrev pub AreOrdered : List SlotOwner → Type 0
AreOrdered [] = ⊤
AreOrdered (variable ∷ variables) = AllByRecursion (Precedes variable) variables × AreOrdered variables

-- with the functions that it uses it has no more of anything than the limits; what its lines name is there; its
-- constants are the different ones of its lines and of those functions; each slot is at first of its type; and global
-- variables come first, in rising order
pub record KeepsLimits (functions : List PlannedFunction) (task : PlannedTask) : Type 0 where
  pub most_instances : length task.instances ≤ limits.most_instances
  pub most_slots : length task.slots + sum_by slots_of_function (functions_of functions task) ≤ limits.most_slots
  pub most_blocks : length task.blocks ≤ limits.most_blocks
  pub most_constants : length task.constants ≤ limits.most_constants
  pub most_words : words_of_lines (all_lines task.instances) + sum_by words_of_function (functions_of functions task)
      ≤ limits.most_words
  pub lines : AreLinesOf (in_task functions task) (all_lines task.instances)
  pub constants : task.constants ≡ constants_for task.instances (functions_of functions task)
  pub initials : AreOf (initials_of task) (types_of task)
  pub ordered : AreOrdered (map (λ s. s.variable) task.slots)
  pub interval : HasInterval task.activation

-- ---- where global variables are located

-- the address is that of something which is connected: of a bus that is there, to 80 as a level's and to 63 as an
-- answer's, or of a source that is bound
abbrev pub IsAddressIn : Wiring → Location → Type 0
IsAddressIn wiring (Level bus address) = (bus < wiring.buses) × (address ≤ 80)
IsAddressIn wiring (GearAnswer bus short) = (bus < wiring.buses) × (short ≤ 63)
IsAddressIn wiring (DeviceAnswer bus short) = (bus < wiring.buses) × (short ≤ 63)
IsAddressIn wiring (Information bus source) = Any (IsAt bus source) wiring.sources
IsAddressIn wiring (Count bus source) = Any (IsAt bus source) wiring.sources
IsAddressIn wiring (Trigger bus source) = Any (IsAt bus source) wiring.sources

-- the type has each number from 0 to the last
abbrev pub HasUpTo : ℕ → IlType → Type 0
HasUpTo last value_type = IsOf (values.Int (pos 0)) value_type × IsOf (values.Int (pos last)) value_type

-- each value of the type is a level, 0 to 255
abbrev pub AreLevels : IlType → Type 0
AreLevels types.Bool = ⊥
AreLevels (types.Int range) = (pos 0 ≤ℤ range.lo) × (range.hi ≤ℤ pos 255)

-- a variable of this type may be located there: it has no other values than levels, or all that an input may have,
-- which is an answer's byte or 256 to 258 (no answer, a damaged one, none yet), the 10 bits of an information, the 16
-- bits of a count, or a truth value
abbrev pub Suits : IlType → Location → Type 0
Suits value_type (Level bus address) = AreLevels value_type
Suits value_type (GearAnswer bus short) = HasUpTo 258 value_type
Suits value_type (DeviceAnswer bus short) = HasUpTo 258 value_type
Suits value_type (Information bus source) = HasUpTo 1023 value_type
Suits value_type (Count bus source) = HasUpTo 65535 value_type
Suits value_type (Trigger bus source) = value_type ≡ types.Bool

-- where it is located, if it is, a variable of its type may be
abbrev pub IsLocatedIn : Wiring → GlobalVariable → Type 0
IsLocatedIn wiring global =
    IfSome global.location (λ location. IsAddressIn wiring location × Suits global.value_type location)

-- the two are not located at one address
abbrev pub AreApart : GlobalVariable → GlobalVariable → Type 0
AreApart one other = IfSome one.location (λ location. ¬ (other.location ≡ Some location))

-- ---- what holds of each plan

-- a slot of a global variable names one that is there, with its type and its initial value
abbrev pub type_and_initial : GlobalVariable → IlType × Value
type_and_initial global = (global.value_type, global.initial)

abbrev pub IsDeclared : List GlobalVariable → SlotOwner → IlType → Value → Type 0
IsDeclared globals (Global number) value_type initial =
    option_map type_and_initial (slice_get globals number) ≡ Some (value_type, initial)
IsDeclared globals (Own instance name) value_type initial = ⊤

-- a BOOL that is located at the trigger of a source
pub record IsTrigger (global : GlobalVariable) : Type 0 where
  pub bus : ℕ
  pub source : ℕ
  pub located : global.location ≡ Some (Trigger bus source)
  pub truth : global.value_type ≡ types.Bool

-- an event is that of a trigger that is there
abbrev pub HasTrigger : List GlobalVariable → Activation → Type 0
HasTrigger globals (Cyclic interval) = ⊤
HasTrigger globals (Event trigger) =
    (global : GlobalVariable) × (slice_get globals trigger ≡ Some global) × IsTrigger global

abbrev pub IsTaskOf : List GlobalVariable → PlannedTask → Type 0
IsTaskOf globals task =
    HasTrigger globals task.activation
    × AllByRecursion (λ s. IsDeclared globals s.variable s.value_type s.initial) task.slots

-- what each block instance of a task keeps is one of its kind's, on so many buses
abbrev pub HasStates : ℕ → PlannedTask → Type 0
HasStates buses task = AllZip (IsBlockOf buses) task.states (kinds_of task)

-- its text is no longer than the limit, its buses and sources are those of a binding, its global variables are located
-- where they may be, each at an address of its own, no function is deeper than the limit or calls one that stands behind
-- it, and its tasks keep their limits, name what is there, and have block instances that are of their kinds
pub record IsLawful (plan : Planned) : Type 0 where
  pub text : length plan.text ≤ limits.most_bytes
  pub wiring : IsWithinLimits (wiring_of plan)
  pub most_tasks : length plan.tasks ≤ limits.most_tasks
  pub located : All (IsLocatedIn (wiring_of plan)) plan.globals
  pub apart : AllPairs AreApart plan.globals
  pub initials : AreOf (map (λ g. g.initial) plan.globals) (map (λ g. g.value_type) plan.globals)
  pub most_functions : length plan.functions ≤ limits.most_functions
  pub functions : AreFunctions [] plan.functions
  pub depths : All (λ depth. depth ≤ limits.most_calls) (depths_from [] plan.functions)
  pub limits : AllByRecursion (KeepsLimits plan.functions) plan.tasks
  pub tasks : AllByRecursion (IsTaskOf plan.globals) plan.tasks
  pub states : AllByRecursion (HasStates plan.buses) plan.tasks

-- a task's slot, where there is one
abbrev pub slot_at : Planned → ℕ → ℕ → Option Slot
slot_at plan task slot = option_and_then (λ t. slice_get t.slots slot) (slice_get plan.tasks task)

-- a global variable is one of these
abbrev pub IsThere : List GlobalVariable → SlotOwner → Type 0
IsThere globals (Global number) = number < length globals
IsThere globals (Own instance name) = ⊤

-- the name of a slot's program instance, where it has one, and of its variable
abbrev pub instance_name : Planned → SlotOwner → Option (List ℕ)
instance_name plan (Global number) = None
instance_name plan (Own instance name) = Some (text_of plan.text instance)

abbrev pub variable_name : Planned → SlotOwner → Option (List ℕ)
variable_name plan (Global number) = option_map (λ g. text_of plan.text g.name) (slice_get plan.globals number)
variable_name plan (Own instance name) = Some (text_of plan.text name)
