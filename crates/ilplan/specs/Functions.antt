-- Functions of a plan (IEC 61131-3, 2.5.1, and profile): each is planned once, over variables of its own, and a task has
-- those that it uses.
use Rattle.std.specs.Prelude.{ℕ, ◌+◌, ◌==◌, ◌||◌, max, Bool, false, List, [], ◌∷◌, ◌++◌, map, flat_map, filter_map, length}
use Rattle.std.specs.Prelude.{Option, Some, None, slice_get, if◌then◌else◌}
use Rattle.std.specs.Option.{option_map_or}
use Rattle.std.specs.List.{list_any}
use Rattle.iltypes.specs.declared.value.IlType.{IlType}
use Rattle.iltypes.specs.declared.value.Value.{Value}
use Rattle.ilsource.specs.declared.instruction.Line.{Line}
use Rattle.ilsource.specs.declared.name.Name.{Name}
use Rattle.ilsource.specs.declared.operand.Operand.{Operand}
use Rattle.ilsource.specs.declared.operand.Operand.TheVariants.{Name as Named}
use Rattle.ilsource.specs.declared.uses.Purpose.{Purpose}
use Rattle.ilsource.specs.declared.uses.Purpose.TheVariants.{Invoke}
use Rattle.ilsource.specs.declared.uses.Use.{Use}
use Rattle.ilsource.specs.Uses.{uses_in}
use Rattle.ilsource.specs.Words.{words_of_lines}
use Rattle.ilplan.specs.declared.function.FunctionInput.{FunctionInput}
use Rattle.ilplan.specs.declared.function.FunctionVariable.{FunctionVariable}
use Rattle.ilplan.specs.declared.place.Place.{Place}
use Rattle.ilplan.specs.declared.place.Place.TheVariants as places
use Rattle.ilplan.specs.Constants.{constants_in}

-- a function: its name, the place of the word FUNCTION, its inputs, its other variables, of which the first is its
-- result, and its lines over all these, numbered in this order
pub record PlannedFunction : Type 0 where
  pub name : Name
  pub at : ℕ
  pub inputs : List FunctionInput
  pub variables : List FunctionVariable
  pub lines : List (Line Place ℕ)

abbrev pub function_of : Name → ℕ → List FunctionInput → List FunctionVariable → List (Line Place ℕ) → PlannedFunction
function_of name at inputs variables lines =
    record { name = name; at = at; inputs = inputs; variables = variables; lines = lines }

-- the types of its variables
abbrev pub function_types : PlannedFunction → List IlType
function_types f = map (λ i. i.value_type) f.inputs ++ map (λ v. v.value_type) f.variables

-- the values with which those that are no inputs start anew at each call
abbrev pub starting_values : PlannedFunction → List Value
starting_values f = map (λ v. v.initial) f.variables

-- ---- what it takes of a task's code: slots; words, of which one gives each starting value; and constants, in order of
-- use

abbrev pub slots_of_function : PlannedFunction → ℕ
slots_of_function f = length f.inputs + length f.variables

abbrev pub words_of_function : PlannedFunction → ℕ
words_of_function f = length f.variables + words_of_lines f.lines

abbrev pub constants_of_function : PlannedFunction → List Value
constants_of_function f = starting_values f ++ constants_in f.lines

-- ---- which functions lines use

-- it is the function of this number
abbrev pub is_number : Place → ℕ → Bool
is_number (places.Function other) number = other == number
is_number place number = false

-- the number of the function that a use invokes
abbrev pub function_in : Purpose → Operand Place → Option ℕ
function_in Invoke (Named (places.Function number)) = Some number
function_in purpose operand = None

abbrev pub function_used : Use Place → Option ℕ
function_used u = function_in u.purpose u.operand

abbrev pub functions_in : List (Use Place) → List ℕ
functions_in uses = filter_map function_used uses

-- some use invokes the function of this number
abbrev pub invokes : List (Use Place) → ℕ → Bool
invokes uses number = list_any (λ other. other == number) (functions_in uses)

-- some line, reached or not, calls it
abbrev pub calls : List (Line Place ℕ) → ℕ → Bool
calls lines number = invokes (flat_map uses_in lines) number

-- those that are there
abbrev pub those_in : List (Option PlannedFunction) → List PlannedFunction
those_in functions = filter_map (λ f. f) functions

-- each of these functions, of which the first has this number, where lines use it: where they call it, or a function
-- after it does that they use
abbrev pub used_from : List (Line Place ℕ) → ℕ → List PlannedFunction → List (Option PlannedFunction)
used_from lines number [] = []
used_from lines number (f ∷ fs) =
    let later = used_from lines (number + 1) fs in
    (if calls lines number || list_any (λ g. calls g.lines number) (those_in later) then Some f else None) ∷ later

-- ---- how deep calls go

-- the depths of those that are called, of functions with these depths
abbrev pub depth_in : List ℕ → ℕ → ℕ
depth_in known number = option_map_or (λ depth. depth) (slice_get known number) 0

abbrev pub greatest : List ℕ → ℕ
greatest [] = 0
greatest (n ∷ ns) = max n (greatest ns)

-- one more than that of the deepest function that it calls: a function that calls none is 1 deep
abbrev pub depth_of : List ℕ → PlannedFunction → ℕ
depth_of known f = greatest (map (depth_in known) (functions_in (flat_map uses_in f.lines))) + 1

abbrev pub depths_from : List ℕ → List PlannedFunction → List ℕ
depths_from known [] = known
depths_from known (f ∷ fs) = depths_from (known ++ depth_of known f ∷ []) fs
