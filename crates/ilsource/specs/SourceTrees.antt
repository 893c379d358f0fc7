-- Source programs as contracts see them (IEC 61131-3, 2.3.3.1, 2.4.3 and 3.2).
use Rattle.std.specs.Prelude.{ℕ, List, Option, Some, None, filter_map}
use Rattle.ilsource.specs.declared.declaration.TypeDeclaration.{TypeDeclaration}
use Rattle.ilsource.specs.declared.source.Element.{Element}
use Rattle.ilsource.specs.declared.source.Element.TheVariants.{DerivedType, Function, Program}
use Rattle.ilsource.specs.Configurations.{Configured}
use Rattle.ilsource.specs.Programs.{Written, WrittenFunction}

-- a text's types, functions and programs in order, its configuration, and the text in which their names stand
pub record Tree : Type 0 where
  pub text : List ℕ
  pub elements : List Element
  pub configuration : Option Configured

abbrev pub program_in : Element → Option Written
program_in (DerivedType type) = None
program_in (Function function) = None
program_in (Program program) = Some program

abbrev pub function_in : Element → Option WrittenFunction
function_in (DerivedType type) = None
function_in (Function function) = Some function
function_in (Program program) = None

abbrev pub type_in : Element → Option TypeDeclaration
type_in (DerivedType type) = Some type
type_in (Function function) = None
type_in (Program program) = None

abbrev pub programs_of : List Element → List Written
programs_of elements = filter_map program_in elements

abbrev pub functions_of : List Element → List WrittenFunction
functions_of elements = filter_map function_in elements

abbrev pub types_of : List Element → List TypeDeclaration
types_of elements = filter_map type_in elements
