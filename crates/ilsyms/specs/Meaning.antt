-- What a source program means, over names (IEC 61131-3, 2.4.3, 2.5.1, 2.5.2, 2.7.2 and 3.2). The store of a task has a
-- value for each global variable that its programs name, then for each variable of each instance, in declared order,
-- and its block instances likewise. A name in an instance's lines is that of the instance's first variable that is
-- spelled alike, else of the global variable of that name, or of the instance's first such block instance, or of the
-- text's first such function; letter case does not matter. A function has a store of its own at each call, with its
-- inputs, its result and its VAR, and its lines see the functions that are declared before it.
use Rattle.std.specs.Prelude.{ℕ, List, [], ◌∷◌, ◌++◌, length, map, slice_get, Bool, false, ◌&&◌, ◌==◌}
use Rattle.std.specs.Prelude.{Option, Some, None}
use Rattle.std.specs.Prelude.{unwrap_or}
use Rattle.std.specs.Prelude.{if◌then◌else◌}
use Rattle.std.specs.Option.{option_and_then, option_map_or}
use Rattle.std.specs.List.{list_any, position_or_len}
use Rattle.ilsource.specs.Meaning.{Access, On}
use Rattle.ilsource.specs.Functions.{Body, FunctionMeaning, body_value, functions_from}
use Rattle.ilsource.specs.Passes.{passes}
use Rattle.ilblocks.specs.Ports.{port_named, most_ports}
use Rattle.ilblocks.specs.Stores.{Shape, Store}
use Rattle.ilsource.specs.declared.name.Name.{Name}
use Rattle.ilsource.specs.declared.symbol.Symbol.{Symbol}
use Rattle.ilsource.specs.declared.symbol.Symbol.TheVariants as symbols
use Rattle.ilsource.specs.Names.{text_of}
use Rattle.ilsource.specs.SourceTrees.{Tree}
use Rattle.ilscope.specs.Configured.{global_number}
use Rattle.ilscope.specs.Declarations.{DeclaredFunction, declared_functions}
use Rattle.ilscope.specs.SameNames.{same_name}
use Rattle.ilplan.specs.declared.instance.FunctionBlock.{FunctionBlock}
use Rattle.ilplan.specs.declared.slot.Slot.{Slot}
use Rattle.ilplan.specs.declared.slot.SlotOwner.{SlotOwner}
use Rattle.ilplan.specs.declared.slot.SlotOwner.TheVariants as variables
use Rattle.ilplan.specs.declared.place.Place.{Place}
use Rattle.ilplan.specs.declared.place.Place.TheVariants as places
use Rattle.ilplan.specs.PlanMeaning.{place_value, with_place, passed_place, called_place, given_place}
use Rattle.ilsyms.specs.Tasks.{NamedProgram, SourceTask}
use Rattle.ilsyms.specs.Variables.{alone, as_instance, slots_of, blocks_of, shape_of}

-- the variable is one of this name, of an instance of that name
abbrev pub is_own : List ℕ → Name → Name → SlotOwner → Bool
is_own text instance name (variables.Own its own) = same_name text instance its && same_name text name own
is_own text instance name (variables.Global number) = false

-- the variable is the global one of this number, if there is such a number
abbrev pub is_global : Option ℕ → SlotOwner → Bool
is_global wanted (variables.Global number) = option_map_or (λ its. its == number) wanted false
is_global wanted (variables.Own its own) = false

-- the place in a store of the value of what an instance's lines name: the instance's own variable, else the global
-- variable of that name; past the last value where there is neither
abbrev pub place_in_store : Tree → List Slot → NamedProgram → Name → ℕ
place_in_store tree slots instance name =
    if list_any (λ v. same_name tree.text name v.name) instance.program.variables
    then position_or_len (λ s. is_own tree.text instance.name name s.variable) slots
    else position_or_len (λ s. is_global (global_number tree name) s.variable) slots

-- the same of a block instance
abbrev pub is_block_under : List ℕ → Name → Name → FunctionBlock → Bool
is_block_under text instance name b = same_name text instance b.instance && same_name text name b.name

abbrev pub block_in_store : List ℕ → List FunctionBlock → Name → Name → ℕ
block_in_store text blocks instance name = position_or_len (is_block_under text instance name) blocks

-- the number of a port of a block instance; past the last port where it has none of this name
abbrev pub port_of_block : List ℕ → Name → FunctionBlock → ℕ
port_of_block text port b = unwrap_or (port_named b.kind (text_of text port)) most_ports

abbrev pub port_in_store : List ℕ → List FunctionBlock → ℕ → Name → ℕ
port_in_store text blocks block port = option_map_or (port_of_block text port) (slice_get blocks block) most_ports

-- the number of the first function of a name; past the last where there is none
abbrev pub function_in_text : Tree → Name → ℕ
function_in_text tree name = position_or_len (λ f. same_name tree.text name f.function.name) (declared_functions tree)

-- the place of what an instance's lines name
abbrev pub place_of : Tree → List Slot → List FunctionBlock → NamedProgram → Symbol → Place
place_of tree slots blocks instance (symbols.Variable name) = places.Slot (place_in_store tree slots instance name)
place_of tree slots blocks instance (symbols.Port block port) =
    let number = block_in_store tree.text blocks instance.name block in
    places.Port number (port_in_store tree.text blocks number port)
place_of tree slots blocks instance (symbols.Block name) =
    places.Block (block_in_store tree.text blocks instance.name name)
place_of tree slots blocks instance (symbols.Function name) = places.Function (function_in_text tree name)

-- how the names in an instance's lines are read, written, passed to and called, in the store of its task, and what
-- functions give, of which this is known
abbrev pub names_in : Shape → Tree → List FunctionMeaning → List Slot → List FunctionBlock → NamedProgram
    → Access Symbol Store
names_in shape tree known slots blocks instance =
    record {
      read = λ store name. place_value store (place_of tree slots blocks instance name);
      write = λ store name value. with_place shape store (place_of tree slots blocks instance name) value;
      pass = λ store name value. passed_place shape store (place_of tree slots blocks instance name) value;
      call = λ store name. called_place shape store (place_of tree slots blocks instance name);
      give = λ name arguments. given_place known (place_of tree slots blocks instance name) arguments;
    }

-- ---- functions

-- what is carried out at a call: its variables are its inputs, its result and its VAR
abbrev pub source_body : DeclaredFunction → Body Symbol Name
source_body f =
    record {
      types = map (λ v. v.value_type) (f.inputs ++ f.variables);
      inputs = length f.inputs;
      initials = map (λ v. v.initial) f.variables;
      lines = f.function.lines;
    }

-- what a function gives, where those before it give this
abbrev pub source_value : Tree → List FunctionMeaning → DeclaredFunction → FunctionMeaning
source_value tree known f =
    body_value
    (same_name tree.text)
    (names_in (shape_of tree 0 (alone f)) tree known (slots_of tree (alone f)) (blocks_of (alone f)) (as_instance f))
    (source_body f)

-- what the functions of the text give, in declared order
abbrev pub source_functions : Tree → List FunctionMeaning
source_functions tree = functions_from (source_value tree) [] (declared_functions tree)

-- ---- tasks

-- the store that the instances leave, one after another, where they leave one
abbrev pub instances_scan : Shape → Tree → List FunctionMeaning → List Slot → List FunctionBlock → List NamedProgram
    → Store → Option Store
instances_scan shape tree known slots blocks [] store = Some store
instances_scan shape tree known slots blocks (i ∷ instances) store =
    option_and_then
    (instances_scan shape tree known slots blocks instances)
    (passes (same_name tree.text) (names_in shape tree known slots blocks i) i.program.program.lines On None store)

-- the store that a scan of the task leaves, on so many buses
abbrev pub source_scan : Tree → ℕ → SourceTask → Store → Option Store
source_scan tree buses task store =
    instances_scan (shape_of tree buses task.instances) tree (source_functions tree) (slots_of tree task.instances)
    (blocks_of task.instances) task.instances store
