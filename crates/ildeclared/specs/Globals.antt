-- What one declaration of global variables says (IEC 61131-3, 2.4.3; what an input is at first by the profile).
use Rattle.std.specs.Prelude.{ℕ, pos, List, map, nat_lt, Option, Some, None, option_and_then, unwrap_or, false}
use Rattle.std.specs.Prelude.{if◌then◌else◌}
use Rattle.iltypes.specs.declared.value.IlType.{IlType}
use Rattle.iltokens.specs.declared.lexed.AddressKind.{AddressKind}
use Rattle.iltokens.specs.declared.lexed.AddressKind.TheVariants as address_kinds
use Rattle.ilsource.specs.Configurations.{DeclaredGlobals}
use Rattle.ilsource.specs.Programs.{DeclaredNames}
use Rattle.ilsource.specs.declared.address.DirectAddress.{DirectAddress}
use Rattle.ilsource.specs.declared.declaration.Constant.{Constant}
use Rattle.ilsource.specs.declared.declaration.Constant.TheVariants as constants
use Rattle.ilsource.specs.declared.declaration.Declared.TheVariants as declared_as
use Rattle.ilsource.specs.declared.name.Name.{Name}
use Rattle.ildeclared.specs.DataTypes.{TypeNames, with_initial}
use Rattle.ildeclared.specs.Declarations.{type_of, values_of}
use Rattle.ildeclared.specs.declared.data_type.DataType.{DataType}
use Rattle.ildeclared.specs.declared.global.DeclaredGlobal.{DeclaredGlobal}

-- what a declaration of global variables says, as one of variables
abbrev pub as_variables : DeclaredGlobals → DeclaredNames
as_variables d = record { names = d.names; declared = declared_as.Variables d.specification d.initial }

-- what an input is at first, whatever its type says: no answer came (258), no event (0, FALSE)
abbrev pub input_initial : AddressKind → ℕ → Option Constant
input_initial address_kinds.OutputByte place = None
input_initial address_kinds.InputWord place = Some (constants.Number (if nat_lt place 128 then pos 258 else pos 0))
input_initial address_kinds.InputBit place = Some (constants.Bool false)

abbrev pub initial_at : Option DirectAddress → Option Constant
initial_at address = option_and_then (λ a. input_initial a.kind a.place) address

-- the type of what is located there, or nowhere: an input begins with its own value, where the type has that
abbrev pub located_type : Option DirectAddress → DataType → DataType
located_type address type = unwrap_or (with_initial (initial_at address) type) type

-- a global variable of this type
abbrev pub global : Option DirectAddress → DataType → Name → DeclaredGlobal
global address type name =
    record { name = name; address = address; value_type = type.value_type; initial = type.initial }

-- the type of what is declared together
abbrev pub global_type : TypeNames → DeclaredGlobals → DataType
global_type types d = located_type d.address (type_of types d.specification d.initial)

-- the global variables that are declared together
abbrev pub globals_in : TypeNames → DeclaredGlobals → List DeclaredGlobal
globals_in types d = map (global d.address (global_type types d)) d.names

-- this type, whatever the name
abbrev pub type_of_each : Option IlType → Name → Option IlType
type_of_each value_type name = value_type

-- the values of each of what is declared together, where its type has no fault
abbrev pub value_types_in : TypeNames → DeclaredGlobals → List (Option IlType)
value_types_in types d = map (type_of_each (values_of types d.specification)) d.names
