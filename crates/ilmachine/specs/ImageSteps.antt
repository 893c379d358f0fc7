-- What single steps of the process image do.
use Rattle.std.specs.Prelude.{List, [], ◌∷◌, ◌++◌, map, false, if◌then◌else◌, slice_set, slice_index_or}
use Rattle.iltypes.specs.declared.value.IlType.{IlType}
use Rattle.iltypes.specs.declared.value.Value.{Value}
use Rattle.iltypes.specs.declared.value.Value.TheVariants as values
use Rattle.iltypes.specs.Values.{AreOf}
use Rattle.ilverify.specs.Listings.{lasting_types}
use Rattle.ilmachine.specs.declared.external.External.{External}
use Rattle.ilmachine.specs.declared.overriding.Override.{Override}
use Rattle.ilmachine.specs.Images.{TaskLayout, TaskImage, AreTyped}

abbrev pub global_value : List Value → External → Value
global_value globals external = slice_index_or globals external.global (values.Bool false)

-- the values of a task's slots, of these of the global variables
abbrev pub slot_values : List Value → TaskImage → List Value
slot_values globals t = map (global_value globals) t.layout.externals ++ t.own.slots

-- the values of the global variables after a scan that left these in the slots of these externals
abbrev pub stored_globals : List External → List Value → List Value → List Value
stored_globals (external ∷ more) (value ∷ others) globals =
    stored_globals more others (if external.stored then slice_set globals external.global value else globals)
stored_globals [] others globals = globals
stored_globals (external ∷ more) [] globals = globals

-- the values of the global variables under overrides
abbrev pub globals_under : List Override → List Value → List Value
globals_under [] globals = globals
globals_under (given ∷ more) globals = globals_under more (slice_set globals given.global given.value)

-- the code's first slots are global variables with these values
pub record HasGlobals (t : TaskLayout) (globals : List Value) : Type 0 where
  pub types : List IlType
  pub typed : AreTyped types (lasting_types t.verified.code) t.externals
  pub values : AreOf globals types
