-- What a plan means, over places in a store (IEC 61131-3, 2.5.1, 2.7.2 and 3.2).
use Rattle.std.specs.Prelude.{ℕ, ◌==◌, List, [], map, length, Option, None, Bool}
use Rattle.iltypes.specs.declared.value.Value.{Value}
use Rattle.ilsource.specs.Functions.{FunctionMeaning, Body, body_value, functions_from, given_by}
use Rattle.ilsource.specs.Meaning.{Access}
use Rattle.ilsource.specs.Passes.{scan}
use Rattle.ilblocks.specs.Stores.{Shape, Store, slot_value, with_slot, port_value, with_port, called}
use Rattle.ilplan.specs.declared.place.Place.{Place}
use Rattle.ilplan.specs.declared.place.Place.TheVariants.{Slot, Port, Block, Function}
use Rattle.ilplan.specs.Functions.{PlannedFunction, function_types, starting_values}
use Rattle.ilplan.specs.Plans.{PlannedTask, shape_of}

-- a variable and a port have values, and an instance and a function have none
abbrev pub place_value : Store → Place → Option Value
place_value s (Slot slot) = slot_value s slot
place_value s (Port block port) = port_value s block port
place_value s (Block block) = None
place_value s (Function number) = None

-- a variable and an input port are written
abbrev pub with_place : Shape → Store → Place → Value → Option Store
with_place shape s (Slot slot) value = with_slot shape s slot value
with_place shape s (Port block port) value = with_port shape s block port value
with_place shape s (Block block) value = None
with_place shape s (Function number) value = None

-- an argument is stored at an input port, and nowhere else
abbrev pub passed_place : Shape → Store → Place → Value → Option Store
passed_place shape s (Port block port) value = with_port shape s block port value
passed_place shape s _ value = None

-- an instance is called
abbrev pub called_place : Shape → Store → Place → Option Store
called_place shape s (Block block) = called shape s block
called_place shape s _ = None

-- a function gives what is known of it
abbrev pub given_place : List FunctionMeaning → Place → List Value → Option Value
given_place known (Function number) arguments = given_by known number arguments
given_place known _ arguments = None

-- how the places of a store of this shape are read, written, passed to and called, and what functions give, of which
-- this is known
abbrev pub places_of : Shape → List FunctionMeaning → Access Place Store
places_of shape known =
    record {
      read = place_value;
      write = with_place shape;
      pass = passed_place shape;
      call = called_place shape;
      give = given_place known;
    }

-- both labels have one number
abbrev pub number_same : ℕ → ℕ → Bool
number_same one other = one == other

-- ---- functions

-- the variables of a function, and no block instance; there is no port whose type depends on the number of buses
abbrev pub body_shape : PlannedFunction → Shape
body_shape f = record { buses = 0; slots = function_types f; kinds = [] }

abbrev pub body_of : PlannedFunction → Body Place ℕ
body_of f =
    record {
      types = function_types f;
      inputs = length f.inputs;
      initials = starting_values f;
      lines = f.lines;
    }

-- what a function gives, where those before it give this
abbrev pub function_value : List FunctionMeaning → PlannedFunction → FunctionMeaning
function_value known f = body_value number_same (places_of (body_shape f) known) (body_of f)

-- what the functions of a plan give, in declared order
abbrev pub functions_given : List PlannedFunction → List FunctionMeaning
functions_given functions = functions_from function_value [] functions

-- ---- tasks

-- the store after a scan of the task on so many buses, with these functions, where it leaves one: its instances in order
abbrev pub plan_scan : ℕ → List PlannedFunction → PlannedTask → Store → Option Store
plan_scan buses functions task store =
    scan number_same (places_of (shape_of buses task) (functions_given functions)) (map (λ i. i.lines) task.instances)
    store
