-- The variables and block instances of program instances, their lines and what these use (IEC 61131-3, 2.4.3, 2.5.2 and
-- 2.7.2): first the global variables that the programs name in VAR_EXTERNAL, in declared order, then the variables of
-- each instance. A function is seen as such an instance (2.5.1).
use Rattle.std.specs.Prelude.{ℕ, List, [], ◌∷◌, ◌++◌, flat_map, map, filter_map, Option, Some, None, Bool, false}
use Rattle.std.specs.Prelude.{◌==◌, if◌then◌else◌}
use Rattle.std.specs.Option.{option_map_or}
use Rattle.std.specs.List.{list_any, enumerate_from}
use Rattle.ilsource.specs.declared.instruction.Line.{Line}
use Rattle.ilblocks.specs.Stores.{Shape}
use Rattle.ilsource.specs.SourceTrees.{Tree}
use Rattle.ilsource.specs.declared.name.Name.{Name}
use Rattle.ilsource.specs.declared.symbol.Symbol.{Symbol}
use Rattle.ildeclared.specs.declared.block.DeclaredBlock.{DeclaredBlock}
use Rattle.ildeclared.specs.declared.external.DeclaredExternal.{DeclaredExternal}
use Rattle.ildeclared.specs.declared.global.DeclaredGlobal.{DeclaredGlobal}
use Rattle.ildeclared.specs.declared.variable.DeclaredVariable.{DeclaredVariable}
use Rattle.ilscope.specs.Configured.{global_number, globals_of}
use Rattle.ilplan.specs.declared.instance.FunctionBlock.{FunctionBlock}
use Rattle.ilplan.specs.declared.slot.Slot.{Slot}
use Rattle.ilplan.specs.declared.slot.SlotOwner.TheVariants as variables
use Rattle.ilscope.specs.Declarations.{DeclaredFunction, as_program}
use Rattle.ilsyms.specs.Tasks.{NamedProgram, instance_named}

-- ---- variables

-- some external has the name of the global variable of this number
abbrev pub is_among : Tree → ℕ → List DeclaredExternal → Bool
is_among tree number externals =
    list_any (λ e. option_map_or (λ its. its == number) (global_number tree e.name) false) externals

-- the programs of the instances name it in VAR_EXTERNAL
abbrev pub is_named : Tree → List NamedProgram → ℕ → Bool
is_named tree instances number = list_any (λ i. is_among tree number i.program.externals) instances

-- the slot of a global variable, and that of a variable of an instance
abbrev pub global_slot : ℕ → DeclaredGlobal → Slot
global_slot number g = record { variable = variables.Global number; value_type = g.value_type; initial = g.initial }

abbrev pub own_slot : Name → DeclaredVariable → Slot
own_slot instance v =
    record { variable = variables.Own instance v.name; value_type = v.value_type; initial = v.initial }

-- the global variables that the instances' programs name, in declared order
abbrev pub named_slot : Tree → List NamedProgram → ℕ × DeclaredGlobal → Option Slot
named_slot tree instances numbered =
    if is_named tree instances numbered.0 then Some (global_slot numbered.0 numbered.1) else None

abbrev pub global_slots : Tree → List NamedProgram → List Slot
global_slots tree instances = filter_map (named_slot tree instances) (enumerate_from 0 (globals_of tree))

-- the variables of instances: those of the first, in declared order, then those of the next
abbrev pub slots_in : NamedProgram → List Slot
slots_in i = map (own_slot i.name) i.program.variables

abbrev pub own_slots : List NamedProgram → List Slot
own_slots instances = flat_map slots_in instances

abbrev pub slots_of : Tree → List NamedProgram → List Slot
slots_of tree instances = global_slots tree instances ++ own_slots instances

-- the block instances, in the same order
abbrev pub function_block : Name → DeclaredBlock → FunctionBlock
function_block instance b = record { instance = instance; name = b.name; kind = b.kind }

abbrev pub blocks_in : NamedProgram → List FunctionBlock
blocks_in i = map (function_block i.name) i.program.blocks

abbrev pub blocks_of : List NamedProgram → List FunctionBlock
blocks_of instances = flat_map blocks_in instances

-- on so many buses they are stores of this shape
abbrev pub shape_of : Tree → ℕ → List NamedProgram → Shape
shape_of tree buses instances =
    record {
      buses = buses;
      slots = map (λ s. s.value_type) (slots_of tree instances);
      kinds = map (λ b. b.kind) (blocks_of instances);
    }

-- ---- lines

-- the lines of instances, one instance after another
abbrev pub lines_of : List NamedProgram → List (Line Symbol Name)
lines_of instances = flat_map (λ i. i.program.program.lines) instances

-- ---- functions

-- a function as a program instance under its own name
abbrev pub as_instance : DeclaredFunction → NamedProgram
as_instance f = instance_named f.function.name (as_program f)

-- and as all that a task has: its slots are the function's inputs, its result and its VAR, and it has no block instance
abbrev pub alone : DeclaredFunction → List NamedProgram
alone f = as_instance f ∷ []
