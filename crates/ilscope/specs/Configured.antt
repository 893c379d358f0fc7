-- What a configuration declares (IEC 61131-3, 2.4.3 and 2.7.1; addresses and what stands at them by the profile). A
-- name is that of the first that is spelled alike. A text without a configuration declares no global variable and no
-- task.
use Rattle.std.specs.Prelude.{ℕ, List, [], flat_map, filter_map, reverse, bytes_eq, slice_get, Option, None}
use Rattle.std.specs.Prelude.{option_and_then, unwrap_or}
use Rattle.std.specs.Option.{option_map_or}
use Rattle.iltypes.specs.declared.value.IlType.{IlType}
use Rattle.ilsource.specs.Configurations.{DeclaredGlobals}
use Rattle.ilsource.specs.Names.{folded}
use Rattle.ilsource.specs.SourceTrees.{Tree, types_of}
use Rattle.ilsource.specs.declared.address.DirectAddress.{DirectAddress}
use Rattle.ilsource.specs.declared.configuration.InstanceDeclaration.{InstanceDeclaration}
use Rattle.ilsource.specs.declared.configuration.TaskDeclaration.{TaskDeclaration}
use Rattle.ilsource.specs.declared.name.Name.{Name}
use Rattle.ildeclared.specs.DataTypes.{TypeNames, types_below}
use Rattle.ildeclared.specs.Globals.{globals_in, value_types_in}
use Rattle.ildeclared.specs.declared.global.DeclaredGlobal.{DeclaredGlobal}
use Rattle.ilscope.specs.Declarations.{declared_functions, declared_programs}
use Rattle.ilscope.specs.Tables.{first_at}

-- ---- global variables

-- what names mean as those of types below all types of the text
abbrev pub types_of_text : Tree → TypeNames
types_of_text tree = types_below (folded tree.text) (reverse (types_of tree.elements))

-- the declarations of global variables
abbrev pub declared_globals_of : Tree → List DeclaredGlobals
declared_globals_of tree = option_map_or (λ c. c.globals) tree.configuration []

-- the global variables, in declared order
abbrev pub globals_of : Tree → List DeclaredGlobal
globals_of tree = flat_map (globals_in (types_of_text tree)) (declared_globals_of tree)

-- the number of the global variable of this name
abbrev pub global_number : Tree → Name → Option ℕ
global_number tree name =
    first_at (λ g. bytes_eq (folded tree.text name) (folded tree.text g.name)) (globals_of tree)

-- and the variable
abbrev pub global_named : Tree → Name → Option DeclaredGlobal
global_named tree name = option_and_then (slice_get (globals_of tree)) (global_number tree name)

-- the values of each global variable, in declared order, where its type has no fault
abbrev pub value_types_of : Tree → List (Option IlType)
value_types_of tree = flat_map (value_types_in (types_of_text tree)) (declared_globals_of tree)

-- and those of the global variable of this name
abbrev pub values_of_global : Tree → Name → Option IlType
values_of_global tree name =
    option_and_then (λ number. unwrap_or (slice_get (value_types_of tree) number) None) (global_number tree name)

-- where global variables are located, in declared order
abbrev pub addresses_of : Tree → List DirectAddress
addresses_of tree = filter_map (λ g. g.address) (globals_of tree)

-- ---- tasks and program instances

abbrev pub task_declarations : Tree → List TaskDeclaration
task_declarations tree = option_map_or (λ c. c.tasks) tree.configuration []

abbrev pub instance_declarations : Tree → List InstanceDeclaration
instance_declarations tree = option_map_or (λ c. c.instances) tree.configuration []

-- the number of the task of this name
abbrev pub task_number : Tree → Name → Option ℕ
task_number tree name =
    first_at (λ t. bytes_eq (folded tree.text name) (folded tree.text t.name)) (task_declarations tree)

-- the number of the program of this name
abbrev pub program_number : Tree → Name → Option ℕ
program_number tree name =
    first_at (λ p. bytes_eq (folded tree.text name) (folded tree.text p.program.name)) (declared_programs tree)

-- ---- functions

-- the number of the function of this name
abbrev pub function_number : Tree → Name → Option ℕ
function_number tree name =
    first_at (λ f. bytes_eq (folded tree.text name) (folded tree.text f.function.name)) (declared_functions tree)
