-- How a task is laid out as code (profile): the words of its instances' lines one after another and behind them those
-- of the functions that it uses, in declared order, each word with its line of the text; a start where each instance
-- begins; its variables as slots, and behind them those of its functions; its block instances with their kinds; and its
-- constants in order of first use. Jumps lead to places.
use Rattle.std.specs.Prelude.{ℕ, ◌+◌, List, [], ◌∷◌, ◌++◌, length, map, flat_map, replicate, if◌then◌else◌}
use Rattle.std.specs.Prelude.{Option, Some, None, slice_get, false}
use Rattle.std.specs.Option.{option_map_or}
use Rattle.std.specs.List.{position_or_len}
use Rattle.iltypes.specs.declared.value.Value.{Value}
use Rattle.iltypes.specs.declared.condition.Condition.{Condition}
use Rattle.iltypes.specs.declared.condition.Condition.TheVariants.{Always, IfTrue, IfFalse}
use Rattle.iltypes.specs.declared.operator.Operator.TheVariants.{Min, Max}
use Rattle.ilsource.specs.declared.arguments.Argument.{Argument}
use Rattle.ilsource.specs.declared.operand.Operand.{Operand}
use Rattle.ilsource.specs.declared.operand.Operand.TheVariants.{Name, Constant}
use Rattle.ilsource.specs.declared.instruction.Instruction.{Instruction}
use Rattle.ilsource.specs.declared.instruction.Instruction.TheVariants as instructions
use Rattle.ilsource.specs.declared.instruction.Line.{Line}
use Rattle.ilsource.specs.declared.nested.Action.{Action}
use Rattle.ilsource.specs.declared.nested.Action.TheVariants as actions
use Rattle.ilsource.specs.Trees.{pieces_of, call_pieces}
use Rattle.ilsource.specs.Passes.{has_label}
use Rattle.ilsource.specs.Words.{places_in}
use Rattle.ilsource.specs.Words as counts
use Rattle.ilsource.specs.Places.{line_at}
use Rattle.ilplan.specs.Constants.{same_value}
use Rattle.ilplan.specs.PlanMeaning.{number_same}
use Rattle.ilplan.specs.declared.place.Place.{Place}
use Rattle.ilplan.specs.declared.place.Place.TheVariants as places
use Rattle.ilplan.specs.Functions.{PlannedFunction, function_types, starting_values, slots_of_function}
use Rattle.ilplan.specs.Functions.{words_of_function}
use Rattle.ilplan.specs.Plans.{PlannedInstance, PlannedTask, all_lines, functions_of, kinds_of, types_of}
use Rattle.ilplan.specs.Plans.{used_functions}
use Rattle.ilcode.specs.declared.function.FunctionBody.{FunctionBody}
use Rattle.ilcode.specs.declared.word.WordOperand.{WordOperand}
use Rattle.ilcode.specs.declared.word.WordOperand.TheVariants as operands
use Rattle.ilcode.specs.declared.word.Target.{Target}
use Rattle.ilcode.specs.declared.word.Target.TheVariants as variables
use Rattle.ilcode.specs.declared.word.Word.{Word}
use Rattle.ilcode.specs.declared.word.Word.TheVariants as words
use Rattle.ilcode.specs.Listings.{Listing, listing_of}
use Rattle.ilcompile.specs.declared.numbers.Placed.{Placed}

-- ---- numbers

-- how a task's code numbers what lines name: its constants; the first slot of the variables that are the lines' own;
-- and where each function of the plan stands in it, where the task uses it
pub record Numbers : Type 0 where
  pub constants : List Value
  pub own : ℕ
  pub functions : List (Option Placed)

abbrev pub numbers_of : List Value → ℕ → List (Option Placed) → Numbers
numbers_of constants own functions = record { constants = constants; own = own; functions = functions }

-- the function of this number in the code, whose slots are from this one on
abbrev pub placed : ℕ → ℕ → Placed
placed number first = record { number = number; first = first }

-- the number of a constant: its place in the table
abbrev pub constant_number : List Value → Value → ℕ
constant_number constants value = position_or_len (same_value value) constants

-- what is named, by numbers. In a plan an operand and what is stored to is a variable or a port, an argument is given
-- to a port, a block instance is called, and a function is invoked: the other cases stand in no plan
abbrev pub number_of : Place → ℕ
number_of (places.Slot slot) = slot
number_of (places.Port block port) = block
number_of (places.Block block) = block
number_of (places.Function number) = number

abbrev pub slot_of : Numbers → Place → ℕ
slot_of n place = n.own + number_of place

abbrev pub operand_of : Numbers → Operand Place → WordOperand
operand_of n (Name (places.Port block port)) = operands.Port port block
operand_of n (Name place) = operands.Slot (slot_of n place)
operand_of n (Constant value) = operands.Constant (constant_number n.constants value)

abbrev pub variable_of : Numbers → Place → Target
variable_of n (places.Port block port) = variables.Port port block
variable_of n place = variables.Slot (slot_of n place)

abbrev pub port_of : Place → ℕ
port_of (places.Port block port) = port
port_of place = 0

-- where a function stands. The lines of a task call none that stands nowhere
abbrev pub placed_or : Option (Option Placed) → Placed
placed_or (Some (Some p)) = p
placed_or _ = placed 0 0

abbrev pub place_in_code : Numbers → Place → Placed
place_in_code n place = placed_or (slice_get n.functions (number_of place))

-- ---- words

abbrev pub word_of_argument : Numbers → Argument Place → Word
word_of_argument n x = words.Pass (port_of x.port) (number_of x.port) (operand_of n x.operand)

-- the word of a piece of what stands in parentheses, or of a call: the current result is stored to the function's first
-- input, each operand is given to another, and the function is called
abbrev pub word_of : Numbers → Action Place → Word
word_of n (actions.Load negated o) = words.Load negated (operand_of n o)
word_of n (actions.Apply operator o) = words.Apply operator (operand_of n o)
word_of n (actions.Transform function) = words.Transform function
word_of n (actions.Open operator) = words.Open operator
word_of n actions.Close = words.Close
word_of n (actions.Hand f) = words.Store false (variables.Slot ((place_in_code n f).first))
word_of n (actions.Give f number o) = words.Give (operand_of n o) ((place_in_code n f).first + number)
word_of n (actions.Invoke f) = words.Invoke ((place_in_code n f).number)

-- the place of the first word after a label, in lines of which the first word is at this place; 0, where no jump leads,
-- where no line has the label
abbrev pub place_of_label : ℕ → List (Line Place ℕ) → ℕ → ℕ
place_of_label place [] label = 0
place_of_label place (line ∷ lines) label =
    if has_label number_same label line.label then place
    else place_of_label (place + counts.words_in line) lines label

-- the arguments one after another, and the call
abbrev pub words_of_call : Numbers → Place → List (Argument Place) → List Word
words_of_call n instance xs = map (word_of_argument n) xs ++ words.Call (number_of instance) ∷ []

-- the jump over a call that is not carried out
abbrev pub jump_over : ℕ → Condition → List Word
jump_over next Always = []
jump_over next IfTrue = words.Jump IfFalse next ∷ []
jump_over next IfFalse = words.Jump IfTrue next ∷ []

-- the words of an instruction in a program or a body that ends at this place, where jumps lead to the targets of their
-- labels: LIMIT is MAX with its lower limit and MIN with its upper one, an operator with parentheses is OPEN, what
-- stands in them, and CLOSE, a return is a jump to the end, CAL is an argument after another and the call, CALC and
-- CALCN jump over these where they are not carried out, a function's call is a word for each argument and the call, and
-- each other is one word; `next` is the place after the last word
abbrev pub words_of : Numbers → ℕ → ℕ → (ℕ → ℕ) → Instruction Place ℕ → List Word
words_of n end next target (instructions.Load negated o) = words.Load negated (operand_of n o) ∷ []
words_of n end next target (instructions.Apply operator o) = words.Apply operator (operand_of n o) ∷ []
words_of n end next target (instructions.Deferred operator t close) =
    words.Open operator ∷ (map (λ p. word_of n p.action) (pieces_of t) ++ words.Close ∷ [])
words_of n end next target (instructions.Transform function) = words.Transform function ∷ []
words_of n end next target (instructions.Limit low high) =
    words.Apply Max (operand_of n low) ∷ words.Apply Min (operand_of n high) ∷ []
words_of n end next target (instructions.Store negated place) = words.Store negated (variable_of n place) ∷ []
words_of n end next target (instructions.Set place) = words.Set (variable_of n place) ∷ []
words_of n end next target (instructions.Reset place) = words.Reset (variable_of n place) ∷ []
words_of n end next target (instructions.Jump condition label) = words.Jump condition (target label) ∷ []
words_of n end next target (instructions.Return condition) = words.Jump condition end ∷ []
words_of n end next target (instructions.Call condition instance xs) =
    jump_over next condition ++ words_of_call n instance xs
words_of n end next target (instructions.Invoke f os) = map (λ p. word_of n p.action) (call_pieces 0 f os)

-- the words of a line, which a label alone has none of
abbrev pub words_in : Numbers → ℕ → ℕ → (ℕ → ℕ) → Line Place ℕ → List Word
words_in n end next target line = option_map_or (words_of n end next target) line.instruction []

-- the words of lines, of which the first word is at this place, in a program or a body that ends at that one: a jump's
-- label is looked for in the lines after it
abbrev pub words_of_lines : Numbers → ℕ → ℕ → List (Line Place ℕ) → List Word
words_of_lines n end place [] = []
words_of_lines n end place (line ∷ lines) =
    let next = place + counts.words_in line in
    words_in n end next (place_of_label next lines) line ++ words_of_lines n end next lines

-- ---- programs

-- the words of programs, the first of them at this place, and the place in the text of each
abbrev pub words_of_programs : Numbers → ℕ → List (List (Line Place ℕ)) → List Word
words_of_programs n place [] = []
words_of_programs n place (lines ∷ more) =
    let end = place + counts.words_of_lines lines in
    words_of_lines n end place lines ++ words_of_programs n end more

abbrev pub places_of_programs : List (List (Line Place ℕ)) → List ℕ
places_of_programs programs = flat_map (λ lines. flat_map places_in lines) programs

-- where each program begins, the first of them at this place
abbrev pub starts_from : ℕ → List (List (Line Place ℕ)) → List ℕ
starts_from place [] = []
starts_from place (lines ∷ more) = place ∷ starts_from (place + counts.words_of_lines lines) more

abbrev pub programs_of : List PlannedInstance → List (List (Line Place ℕ))
programs_of instances = map (λ i. i.lines) instances

-- ---- functions

-- where each of these functions stands, where it is used: the first that is has this number and this first slot
abbrev pub placed_from : ℕ → ℕ → List (Option PlannedFunction) → List (Option Placed)
placed_from number first [] = []
placed_from number first (None ∷ fs) = None ∷ placed_from number first fs
placed_from number first (Some f ∷ fs) =
    Some (placed number first) ∷ placed_from (number + 1) (first + slots_of_function f) fs

-- values are given to the slots from this one on
abbrev pub words_of_values : List Value → ℕ → List Value → List Word
words_of_values constants slot [] = []
words_of_values constants slot (value ∷ values) =
    words.Give (operands.Constant (constant_number constants value)) slot
    ∷ words_of_values constants (slot + 1) values

-- the words of a function that begins at this place: the starting values are given to its result and its VAR, and then
-- come its lines
abbrev pub words_of_body : Numbers → ℕ → PlannedFunction → List Word
words_of_body n place f =
    words_of_values n.constants (n.own + length f.inputs) (starting_values f)
    ++ words_of_lines n (place + words_of_function f) (place + length f.variables) f.lines

-- the place in the text of each: the starting values stand where FUNCTION does
abbrev pub places_of_body : PlannedFunction → List ℕ
places_of_body f = replicate (length f.variables) f.at ++ flat_map places_in f.lines

-- the words of functions, of which the first begins at this place and has this first slot
abbrev pub words_of_bodies : List Value → List (Option Placed) → ℕ → ℕ → List PlannedFunction → List Word
words_of_bodies constants functions place first [] = []
words_of_bodies constants functions place first (f ∷ fs) =
    words_of_body (numbers_of constants first functions) place f
    ++ words_of_bodies constants functions (place + words_of_function f) (first + slots_of_function f) fs

abbrev pub body_at : ℕ → ℕ → PlannedFunction → FunctionBody
body_at place first f =
    record { start = place; first = first; inputs = length f.inputs; slots = slots_of_function f }

abbrev pub bodies_from : ℕ → ℕ → List PlannedFunction → List FunctionBody
bodies_from place first [] = []
bodies_from place first (f ∷ fs) =
    body_at place first f ∷ bodies_from (place + words_of_function f) (first + slots_of_function f) fs

-- ---- tasks

-- the code of a task on this many buses, whose places are those of a text, with those of these functions that it uses
abbrev pub laid_out : ℕ → List ℕ → List PlannedFunction → PlannedTask → Listing
laid_out buses text functions task =
    let programs = programs_of task.instances in
    let bodies = functions_of functions task in
    let slots = length task.slots in
    let end = counts.words_of_lines (all_lines task.instances) in
    let stand = placed_from 0 slots (used_functions functions task) in
    listing_of buses task.constants (types_of task ++ flat_map function_types bodies) (kinds_of task)
    (starts_from 0 programs)
    (words_of_programs (numbers_of task.constants 0 stand) 0 programs
    ++ words_of_bodies task.constants stand end slots bodies)
    (map (line_at text) (places_of_programs programs ++ flat_map places_of_body bodies))
    (bodies_from end slots bodies)
