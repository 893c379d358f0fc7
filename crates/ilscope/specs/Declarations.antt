-- What a text declares (IEC 61131-3, 2.3.3.1, 2.4.3, 2.5.1, 2.5.2.2 and 2.7.1): each type and each variable below the
-- types above it, functions, block instances, and the global variables, tasks and program instances of its
-- configuration, which stands below all types.
use Rattle.std.specs.Prelude.{ℕ, List, [], ◌∷◌, ◌++◌, Option, filter_map, length, map, option_map, slice_get}
use Rattle.ilsource.specs.Names.{folded}
use Rattle.ilsource.specs.Programs.{DeclaredNames, Written, WrittenFunction}
use Rattle.ilsource.specs.SourceTrees.{Tree, function_in, functions_of, program_in, types_of}
use Rattle.ilsource.specs.declared.declaration.Declared.TheVariants as declared_as
use Rattle.ilsource.specs.declared.name.Name.{Name}
use Rattle.ilsource.specs.declared.source.Element.{Element}
use Rattle.ilsource.specs.declared.source.Element.TheVariants.{DerivedType, Function, Program}
use Rattle.ildeclared.specs.DataTypes.{TypeNames, types_below}
use Rattle.ildeclared.specs.Declarations.{blocks_of, externals_of, inputs_of, own_variables_of, result_declaration}
use Rattle.ildeclared.specs.Declarations.{variables_of}
use Rattle.ildeclared.specs.declared.block.DeclaredBlock.{DeclaredBlock}
use Rattle.ildeclared.specs.declared.external.DeclaredExternal.{DeclaredExternal}
use Rattle.ildeclared.specs.declared.variable.DeclaredVariable.{DeclaredVariable}
use Rattle.ilscope.specs.declared.body_number.BodyNumber.{BodyNumber}
use Rattle.ilscope.specs.declared.body_number.BodyNumber.TheVariants as bodies

-- a type, a function or a program, with what stands above it, the nearest first
pub record Standing : Type 0 where
  pub above : List Element
  pub element : Element

-- the elements in order, each with what stands above it; these stand above all of them
abbrev pub standing : List Element → List Element → List Standing
standing above [] = []
standing above (element ∷ more) = record { above = above; element = element } ∷ standing (element ∷ above) more

-- what the names of types mean there
abbrev pub types_at : (Name → List ℕ) → Standing → TypeNames
types_at spelled one = types_below spelled (types_of one.above)

-- how many functions stand above
abbrev pub functions_above : Standing → ℕ
functions_above one = length (functions_of one.above)

-- the name of a type, of a function or of a program
abbrev pub name_of : Element → Name
name_of (DerivedType type) = type.name
name_of (Function function) = function.name
name_of (Program program) = program.name

-- what an element declares: a type itself, a function its result, its inputs and its VAR, a program its variables and
-- block instances
abbrev pub declarations_in : Element → List DeclaredNames
declarations_in (DerivedType type) =
    record { names = type.name ∷ []; declared = declared_as.Variables type.specification type.initial } ∷ []
declarations_in (Function function) = result_declaration function ∷ (function.inputs ++ function.variables)
declarations_in (Program program) = program.declarations

-- ---- programs

-- a program with its own variables, its block instances and its externals, and how many functions stand above it
pub record DeclaredProgram : Type 0 where
  pub program : Written
  pub variables : List DeclaredVariable
  pub blocks : List DeclaredBlock
  pub externals : List DeclaredExternal
  pub functions : ℕ

abbrev pub with_declared : TypeNames → ℕ → Written → DeclaredProgram
with_declared types_above functions program =
    record {
      program = program;
      variables = variables_of types_above program;
      blocks = blocks_of program;
      externals = externals_of types_above program;
      functions = functions;
    }

abbrev pub declared_program : (Name → List ℕ) → Standing → Option DeclaredProgram
declared_program spelled one =
    option_map (with_declared (types_at spelled one) (functions_above one)) (program_in one.element)

-- the programs of a text in order, each with what it declares
abbrev pub declared_programs : Tree → List DeclaredProgram
declared_programs tree = filter_map (declared_program (folded tree.text)) (standing [] tree.elements)

-- ---- functions

-- a function with its inputs and its other variables, of which the first is its result, and how many functions stand
-- above it
pub record DeclaredFunction : Type 0 where
  pub function : WrittenFunction
  pub inputs : List DeclaredVariable
  pub variables : List DeclaredVariable
  pub functions : ℕ

abbrev pub with_inputs : TypeNames → ℕ → WrittenFunction → DeclaredFunction
with_inputs types_above functions function =
    record {
      function = function;
      inputs = inputs_of types_above function;
      variables = own_variables_of types_above function;
      functions = functions;
    }

abbrev pub declared_function : (Name → List ℕ) → Standing → Option DeclaredFunction
declared_function spelled one =
    option_map (with_inputs (types_at spelled one) (functions_above one)) (function_in one.element)

-- the functions of a text in order, each with what it declares
abbrev pub declared_functions : Tree → List DeclaredFunction
declared_functions tree = filter_map (declared_function (folded tree.text)) (standing [] tree.elements)

-- ---- bodies

-- a function as a program: its lines over its inputs and its other variables; it has no block instance, and names no
-- global variable
abbrev pub as_written : WrittenFunction → Written
as_written f = record { name = f.name; declarations = f.inputs ++ f.variables; lines = f.lines }

abbrev pub as_program : DeclaredFunction → DeclaredProgram
as_program f =
    record {
      program = as_written f.function;
      variables = f.inputs ++ f.variables;
      blocks = [];
      externals = [];
      functions = f.functions;
    }

-- all that has lines: the programs, and then the functions as such
abbrev pub bodies_of : Tree → List DeclaredProgram
bodies_of tree = declared_programs tree ++ map as_program (declared_functions tree)

-- the program of a number, or the function of a number as one
abbrev pub body_at : Tree → BodyNumber → Option DeclaredProgram
body_at tree (bodies.Program number) = slice_get (declared_programs tree) number
body_at tree (bodies.Function number) = option_map as_program (slice_get (declared_functions tree) number)
