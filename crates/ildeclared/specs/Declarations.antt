-- What one declaration of a program says, all of a program's, and all of a function's (IEC 61131-3, 2.3.3.1, 2.4.3,
-- 2.5.1 and 2.5.2.2): variables below the types above them, block instances, and externals.
use Rattle.std.specs.Prelude.{List, [], ◌∷◌, ◌++◌, Option, None, map, flat_map, option_map, unwrap_or}
use Rattle.ilblocks.specs.declared.kind.BlockKind.{BlockKind}
use Rattle.iltypes.specs.declared.value.IlType.{IlType}
use Rattle.ilsource.specs.Programs.{DeclaredNames, Written, WrittenFunction}
use Rattle.ilsource.specs.declared.declaration.Constant.{Constant}
use Rattle.ilsource.specs.declared.declaration.Declared.{Declared}
use Rattle.ilsource.specs.declared.declaration.Declared.TheVariants as declared_as
use Rattle.ilsource.specs.declared.declaration.Specification.{Specification}
use Rattle.ilsource.specs.declared.name.Name.{Name}
use Rattle.ildeclared.specs.DataTypes.{TypeNames, data_type, truth_values, declared_type}
use Rattle.ildeclared.specs.declared.block.DeclaredBlock.{DeclaredBlock}
use Rattle.ildeclared.specs.declared.data_type.DataType.{DataType}
use Rattle.ildeclared.specs.declared.external.DeclaredExternal.{DeclaredExternal}
use Rattle.ildeclared.specs.declared.variable.DeclaredVariable.{DeclaredVariable}

-- the names that a program declares, in their order
abbrev pub names_of : Written → List Name
names_of program = flat_map (λ d. d.names) program.declarations

-- what a declaration means; FALSE of BOOL, whatever is written, where it or its type is at fault
abbrev pub type_of : TypeNames → Specification → Option Constant → DataType
type_of types_above specification initial = unwrap_or (declared_type types_above specification initial) truth_values

abbrev pub variable : DataType → Name → DeclaredVariable
variable type name = record { name = name; value_type = type.value_type; initial = type.initial }

-- the variables among names that are declared together, and the block instances among them
abbrev pub variables_among : TypeNames → List Name → Declared → List DeclaredVariable
variables_among types_above names (declared_as.Variables specification initial) =
    map (variable (type_of types_above specification initial)) names
variables_among types_above names _ = []

abbrev pub block : BlockKind → Name → DeclaredBlock
block kind name = record { name = name; kind = kind }

abbrev pub blocks_among : List Name → Declared → List DeclaredBlock
blocks_among names (declared_as.Blocks kind) = map (block kind) names
blocks_among names _ = []

abbrev pub variables_in : TypeNames → DeclaredNames → List DeclaredVariable
variables_in types_above declaration = variables_among types_above declaration.names declaration.declared

abbrev pub blocks_in : DeclaredNames → List DeclaredBlock
blocks_in declaration = blocks_among declaration.names declaration.declared

-- a program's variables, in declared order
abbrev pub variables_of : TypeNames → Written → List DeclaredVariable
variables_of types_above program = flat_map (variables_in types_above) program.declarations

-- a program's block instances, in declared order
abbrev pub blocks_of : Written → List DeclaredBlock
blocks_of program = flat_map blocks_in program.declarations

-- the values of variables of this type, where it has no fault
abbrev pub values_of : TypeNames → Specification → Option IlType
values_of types_above specification = option_map (λ type. type.value_type) (data_type types_above specification)

abbrev pub external : Option IlType → Name → DeclaredExternal
external value_type name = record { name = name; value_type = value_type }

abbrev pub externals_among : TypeNames → List Name → Declared → List DeclaredExternal
externals_among types_above names (declared_as.External specification) =
    map (external (values_of types_above specification)) names
externals_among types_above names _ = []

abbrev pub externals_in : TypeNames → DeclaredNames → List DeclaredExternal
externals_in types_above declaration = externals_among types_above declaration.names declaration.declared

-- what a program has in VAR_EXTERNAL, in declared order
abbrev pub externals_of : TypeNames → Written → List DeclaredExternal
externals_of types_above program = flat_map (externals_in types_above) program.declarations

-- ---- functions

-- the names that a function declares, in the order of the text: its own, those of its inputs, those of its VAR
abbrev pub function_names : WrittenFunction → List Name
function_names f = f.name ∷ flat_map (λ d. d.names) (f.inputs ++ f.variables)

-- the result of a function, as it is declared: a variable with the function's name
abbrev pub result_declaration : WrittenFunction → DeclaredNames
result_declaration f = record { names = f.name ∷ []; declared = declared_as.Variables f.result_type None }

-- a function's inputs, in declared order
abbrev pub inputs_of : TypeNames → WrittenFunction → List DeclaredVariable
inputs_of types_above f = flat_map (variables_in types_above) f.inputs

-- the variable with the function's name; it begins as its type says
abbrev pub result_variable : TypeNames → WrittenFunction → DeclaredVariable
result_variable types_above f = variable (type_of types_above f.result_type None) f.name

-- a function's other variables: the one with its name, which is its result, and its VAR in declared order
abbrev pub own_variables_of : TypeNames → WrittenFunction → List DeclaredVariable
own_variables_of types_above f = result_variable types_above f ∷ flat_map (variables_in types_above) f.variables
