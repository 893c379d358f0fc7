-- The plan of a source program: the functions and the tasks of the text with their names replaced by places in a store,
-- and labels by the numbers of lines; its global variables, and the sources of events that are bound (profile).
use Rattle.std.specs.Prelude.{ℕ, ◌-◌, List, map, option_map, nat_lt, if◌then◌else◌}
use Rattle.std.specs.List.{position_or_len}
use Rattle.wordlines.specs.Wirings.{Wiring}
use Rattle.ilsource.specs.declared.instruction.Line.{Line}
use Rattle.ilsource.specs.Passes.{has_label}
use Rattle.ilsource.specs.Renaming.{NewNames, by_name, rename_line}
use Rattle.iltokens.specs.declared.lexed.AddressKind.{AddressKind}
use Rattle.iltokens.specs.declared.lexed.AddressKind.TheVariants as address_kinds
use Rattle.ilsource.specs.declared.name.Name.{Name}
use Rattle.ilsource.specs.declared.symbol.Symbol.{Symbol}
use Rattle.ilsource.specs.SourceTrees.{Tree}
use Rattle.iltypes.specs.declared.value.Value.{Value}
use Rattle.ildeclared.specs.declared.global.DeclaredGlobal.{DeclaredGlobal}
use Rattle.ildeclared.specs.declared.variable.DeclaredVariable.{DeclaredVariable}
use Rattle.ilscope.specs.Configured.{globals_of}
use Rattle.ilscope.specs.Declarations.{DeclaredFunction, declared_functions}
use Rattle.ilplan.specs.declared.global.Global.{Global}
use Rattle.ilplan.specs.declared.global.Location.{Location}
use Rattle.ilplan.specs.declared.global.Location.TheVariants.{Level, GearAnswer, DeviceAnswer, Information, Count}
use Rattle.ilplan.specs.declared.global.Location.TheVariants.{Trigger}
use Rattle.ilplan.specs.declared.instance.FunctionBlock.{FunctionBlock}
use Rattle.ilplan.specs.declared.place.Place.{Place}
use Rattle.ilplan.specs.declared.slot.Slot.{Slot}
use Rattle.ilplan.specs.declared.function.FunctionInput.{FunctionInput}
use Rattle.ilplan.specs.declared.function.FunctionVariable.{FunctionVariable}
use Rattle.ilplan.specs.Functions.{PlannedFunction, function_of, those_in}
use Rattle.ilplan.specs.Plans.{PlannedInstance, PlannedTask, Planned, constants_for, plan_of, task_of, used_by}
use Rattle.ilscope.specs.SameNames.{same_name}
use Rattle.ilsyms.specs.Meaning.{place_of}
use Rattle.ilsyms.specs.Tasks.{NamedProgram, SourceTask, tasks_of}
use Rattle.ilsyms.specs.Variables.{alone, as_instance, slots_of, blocks_of}

-- where an address of a place that is there lies
abbrev pub location : AddressKind → ℕ → ℕ → Location
location address_kinds.OutputByte bus place = Level bus place
location address_kinds.InputWord bus place =
    if nat_lt place 64 then GearAnswer bus place
    else if nat_lt place 128 then DeviceAnswer bus (place - 64)
    else if nat_lt place 192 then Information bus (place - 128) else Count bus (place - 192)
location address_kinds.InputBit bus place = Trigger bus place

abbrev pub planned_global : DeclaredGlobal → Global
planned_global g =
    record {
      name = g.name;
      location = option_map (λ a. location a.kind a.bus a.place) g.address;
      value_type = g.value_type;
      initial = g.initial;
    }

-- each name in an instance's lines as its place; constants stay
abbrev pub new_places : Tree → List Slot → List FunctionBlock → NamedProgram → NewNames Symbol Place
new_places tree slots blocks instance =
    let place = place_of tree slots blocks instance in record { operand = by_name place; name = place }

-- a label as the number of the first line that has it
abbrev pub label_number : List ℕ → List (Line Symbol Name) → Name → ℕ
label_number text lines label = position_or_len (λ line. has_label (same_name text) label line.label) lines

abbrev pub planned_instance : Tree → List Slot → List FunctionBlock → NamedProgram → PlannedInstance
planned_instance tree slots blocks i =
    let lines = i.program.program.lines in
    record {
      name = i.name;
      lines = map (rename_line (new_places tree slots blocks i) (label_number tree.text lines)) lines;
    }

abbrev pub planned_instances : Tree → List NamedProgram → List PlannedInstance
planned_instances tree instances =
    map (planned_instance tree (slots_of tree instances) (blocks_of instances)) instances

-- ---- functions

abbrev pub planned_input : DeclaredVariable → FunctionInput
planned_input v = record { name = v.name; value_type = v.value_type }

abbrev pub planned_variable : DeclaredVariable → FunctionVariable
planned_variable v = record { name = v.name; value_type = v.value_type; initial = v.initial }

-- a function, planned as the one program instance of a task
abbrev pub planned_function : Tree → DeclaredFunction → PlannedFunction
planned_function tree f =
    function_of f.function.name f.function.at (map planned_input f.inputs) (map planned_variable f.variables)
    (planned_instance tree (slots_of tree (alone f)) (blocks_of (alone f)) (as_instance f)).lines

abbrev pub planned_functions : Tree → List PlannedFunction
planned_functions tree = map (planned_function tree) (declared_functions tree)

-- those that a task with these instances uses, in declared order
abbrev pub functions_used : Tree → List NamedProgram → List PlannedFunction
functions_used tree instances = those_in (used_by (planned_functions tree) (planned_instances tree instances))

-- ---- tasks

-- the constants of a task with these instances, and of the functions that it uses
abbrev pub constants_of : Tree → List NamedProgram → List Value
constants_of tree instances = constants_for (planned_instances tree instances) (functions_used tree instances)

abbrev pub planned_task : Tree → SourceTask → PlannedTask
planned_task tree task =
    task_of task.name task.activation task.priority (slots_of tree task.instances) (blocks_of task.instances)
    (constants_of tree task.instances) (planned_instances tree task.instances)

-- the plan of the text and the binding
abbrev pub plan_of_tree : Tree → Wiring → Planned
plan_of_tree tree wiring =
    plan_of tree.text wiring.buses wiring.sources wiring.tries (map planned_global (globals_of tree))
    (planned_functions tree) (map (planned_task tree) (tasks_of tree))
