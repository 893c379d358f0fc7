-- Codes at which a wrong verifier or a wrong machine would answer otherwise, a word a line, and ranges.
use Rattle.std.specs.Prelude.{ℕ, ℤ, ◌≤ℤ◌, pos, true, false, List, [], ◌∷◌, map}
use Rattle.iltypes.specs.declared.condition.Condition.TheVariants.{IfTrue, IfFalse, Always}
use Rattle.iltypes.specs.declared.function.Function.TheVariants.{Convert}
use Rattle.iltypes.specs.declared.function.IntegerType.TheVariants.{Sint}
use Rattle.iltypes.specs.declared.operator.Operator.TheVariants.{Le}
use Rattle.iltypes.specs.declared.value.IlType.{IlType}
use Rattle.iltypes.specs.declared.value.IlType.TheVariants as types
use Rattle.iltypes.specs.declared.range.Range.{Range}
use Rattle.iltypes.specs.declared.value.Value.TheVariants as values
use Rattle.ilcode.specs.declared.function.FunctionBody.{FunctionBody}
use Rattle.ilcode.specs.declared.word.WordOperand.TheVariants as operands
use Rattle.ilcode.specs.declared.word.Target.TheVariants as targets
use Rattle.ilcode.specs.declared.word.Word.{Word}
use Rattle.ilcode.specs.declared.word.Word.TheVariants as words
use Rattle.ilcode.specs.Listings.{Listing}
use Rattle.ilverify.specs.declared.known.Known.{Known}
use Rattle.ilverify.specs.declared.known.Known.TheVariants as knowns

abbrev range_of : (lo hi : ℤ) → lo ≤ℤ hi → Range
range_of lo hi ordered = record { lo = lo; hi = hi; ordered = ordered }

-- numbers that are known of a slot
abbrev pub few : Known
few = knowns.Int (range_of (pos 0) (pos 1) (record { le = tt }))

abbrev pub many : Known
many = knowns.Int (range_of (pos 0) (pos 5) (record { le = tt }))

-- a code for one bus with one program, with these slots, words and functions, and the constants 0, 100, 200
-- and TRUE
abbrev pub code_of : List IlType → List Word → List FunctionBody → Listing
code_of slot_types instructions functions =
    record {
      buses = 1;
      constants = values.Int (pos 0) ∷ values.Int (pos 100) ∷ values.Int (pos 200) ∷ values.Bool true ∷ [];
      slots = slot_types;
      kinds = [];
      starts = 0 ∷ [];
      instructions = instructions;
      lines = map (λ word. 1) instructions;
      functions = functions;
    }

abbrev pub level : IlType
level = types.Int (range_of (pos 0) (pos 254) (record { le = tt }))

-- a level and a truth value
abbrev slots : List IlType
slots = level ∷ types.Bool ∷ []

abbrev pub load_level : Word
load_level = words.Load false (operands.Slot 0)

abbrev pub load_truth : Word
load_truth = words.Load false (operands.Slot 1)

abbrev load : ℕ → Word
load constant = words.Load false (operands.Constant constant)

abbrev store_level : Word
store_level = words.Store false (targets.Slot 0)

-- whether the level is at most 100
abbrev test : Word
test = words.Apply Le (operands.Constant 1)

-- undefined at 200
abbrev convert : Word
convert = words.Transform (Convert Sint)

-- the level is 0 on one way and 200 on the other where they meet, and is converted there
abbrev pub meeting : Listing
meeting =
    code_of slots
    (load 0
    ∷ store_level
    ∷ load_truth
    ∷ words.Jump IfTrue 6
    ∷ load 2
    ∷ store_level
    ∷ load_level
    ∷ convert
    ∷ []) []

-- the level is tested, then stored to, and is converted where the test holds
abbrev pub stored_after_a_test : Listing
stored_after_a_test =
    code_of slots
    (load_level ∷ test ∷ words.Jump IfFalse 7 ∷ load 2 ∷ store_level ∷ load_level ∷ convert ∷ []) []

-- the level is tested, then a truth value is loaded, and the level is converted where that is TRUE
abbrev pub loaded_after_a_test : Listing
loaded_after_a_test =
    code_of slots (load_level ∷ test ∷ load_truth ∷ words.Jump IfFalse 6 ∷ load_level ∷ convert ∷ []) []

-- The level is tested, then 200 is given to it, and it is converted where the test holds. The code is for 17 buses,
-- since one for fewer buses gives no value unless it has a function.
abbrev pub given_after_a_test : Listing
given_after_a_test =
    record (code_of slots
    (load_level
    ∷ test
    ∷ words.Give (operands.Constant 2) 0
    ∷ words.Jump IfFalse 6
    ∷ load_level
    ∷ convert
    ∷ []) []) { buses = 17 }

-- a function whose only word closes a parenthesis that is not open
abbrev pub bad_function : Listing
bad_function =
    code_of (types.Bool ∷ types.Bool ∷ []) (words.Invoke 0 ∷ words.Close ∷ [])
    (record { start = 1; first = 0; inputs = 1; slots = 2 } ∷ [])

-- the way of the jump is longer than that past it, which jumps to the end
abbrev pub branching : Listing
branching =
    code_of slots
    (load_truth
    ∷ words.Jump IfTrue 3
    ∷ words.Jump Always 6
    ∷ load_level
    ∷ load_level
    ∷ load_level
    ∷ []) []

-- two words
abbrev pub straight : Listing
straight = code_of slots (load_level ∷ load_truth ∷ []) []
