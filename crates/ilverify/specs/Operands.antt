-- What is known of an operand, what a store writes, and what a body may name (profile).
use Rattle.std.specs.Prelude.{ℕ, ◌-◌, ◌==◌, ◌&&◌, ◌||◌, nat_le, nat_lt, Bool, true, false, Option, is_some, slice_get}
use Rattle.std.specs.List.{list_any}
use Rattle.std.specs.Option.{option_map, option_and_then}
use Rattle.iltypes.specs.declared.value.IlType.{IlType}
use Rattle.ilcode.specs.Stores.{type_of_port, type_of_input}
use Rattle.ilcode.specs.declared.function.FunctionBody.{FunctionBody}
use Rattle.ilcode.specs.declared.word.WordOperand.{WordOperand}
use Rattle.ilcode.specs.declared.word.WordOperand.TheVariants as operands
use Rattle.ilcode.specs.declared.word.Target.{Target}
use Rattle.ilcode.specs.declared.word.Target.TheVariants as variables
use Rattle.ilcode.specs.Listings.{Listing, shape_of, body_at, slots_start, slots_end, result_slot}
use Rattle.ilverify.specs.declared.entry.Entry.{Entry}
use Rattle.ilverify.specs.declared.known.Known.{Known}
use Rattle.ilverify.specs.Knowns.{known_of_type, known_of_value}

-- what is known of an operand, where its table has it: of a port always that it is of its type
abbrev pub known_of : Listing → Entry → WordOperand → Option Known
known_of code entry (operands.Slot slot) = slice_get entry.slots slot
known_of code entry (operands.Constant constant) = option_map known_of_value (slice_get code.constants constant)
known_of code entry (operands.Port port block) = option_map known_of_type (type_of_port (shape_of code) block port)

-- what is known of the result of a function that is there: that it is of its type
abbrev pub known_of_result : Listing → Option FunctionBody → Option Known
known_of_result code function =
    option_and_then (λ f. option_map known_of_type (slice_get code.slots (result_slot f))) function

-- the type of what a store writes, where its table has it
abbrev pub type_of_variable : Listing → Target → Option IlType
type_of_variable code (variables.Slot slot) = slice_get code.slots slot
type_of_variable code (variables.Port port block) = type_of_port (shape_of code) block port

-- ---- what a body may name: of the slots its own alone, and only in the programs a port or a block instance

abbrev pub is_own : Listing → ℕ → ℕ → Bool
is_own code body slot = nat_le (slots_start code body) slot && nat_lt slot (slots_end code body)

-- the word at the place is one of the programs
abbrev pub in_programs : Listing → ℕ → Bool
in_programs code place = body_at code place == 0

-- whether the word at the place may name the operand
abbrev pub may_name : Listing → ℕ → WordOperand → Bool
may_name code place (operands.Slot slot) = is_own code (body_at code place) slot
may_name code place (operands.Constant constant) = true
may_name code place (operands.Port port block) = in_programs code place

-- ---- what a body may write: its own slots, and the inputs of the functions that it may call

abbrev pub is_input : ℕ → FunctionBody → Bool
is_input slot f = nat_le f.first slot && nat_lt (slot - f.first) f.inputs

-- the programs call each function, a function those before it
abbrev pub is_before : Listing → ℕ → ℕ → Bool
is_before code body slot = body == 0 || nat_lt slot (slots_start code body)

abbrev pub is_writable : Listing → ℕ → ℕ → Bool
is_writable code body slot =
    is_own code body slot || (is_before code body slot && list_any (is_input slot) code.functions)

-- whether ST or GIVE at the place may write it: a variable of these, or in the programs an input of a block
abbrev pub may_write : Listing → ℕ → Target → Bool
may_write code place (variables.Slot slot) = is_writable code (body_at code place) slot
may_write code place (variables.Port port block) =
    in_programs code place && is_some (type_of_input (shape_of code) block port)

-- whether S and R may write it: an own slot, or in the programs an input of a block
abbrev pub may_set : Listing → ℕ → Target → Bool
may_set code place (variables.Slot slot) = is_own code (body_at code place) slot
may_set code place (variables.Port port block) = may_write code place (variables.Port port block)

-- whether ST, or STN where it negates, may write it: only ST gives an input of a function its value
abbrev pub may_store : Bool → Listing → ℕ → Target → Bool
may_store false code place variable = may_write code place variable
may_store true code place variable = may_set code place variable
