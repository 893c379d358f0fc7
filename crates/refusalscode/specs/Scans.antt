-- Codes whose scans a wrong machine would make otherwise, a word a line, and what they begin from.
use Rattle.std.specs.Prelude.{ℤ, ℕ, pos, true, false, List, [], ◌∷◌}
use Rattle.iltypes.specs.declared.condition.Condition.TheVariants.{IfTrue}
use Rattle.iltypes.specs.declared.operator.Operator.TheVariants.{Sub}
use Rattle.iltypes.specs.declared.value.IlType.{IlType}
use Rattle.iltypes.specs.declared.value.Value.TheVariants as values
use Rattle.ilblocks.specs.declared.kind.BlockKind.TheVariants.{GearLevel}
use Rattle.ilblocks.specs.Calls.{at_first}
use Rattle.ilblocks.specs.Stores.{Lasting}
use Rattle.ilcode.specs.declared.function.FunctionBody.{FunctionBody}
use Rattle.ilcode.specs.declared.word.WordOperand.TheVariants as operands
use Rattle.ilcode.specs.declared.word.Target.TheVariants as targets
use Rattle.ilcode.specs.declared.word.Word.{Word}
use Rattle.ilcode.specs.declared.word.Word.TheVariants as words
use Rattle.ilcode.specs.Listings.{Listing}
use Rattle.refusalscode.specs.Codes.{code_of, level}

-- the number 0 in the slot of the programs
abbrev pub no_blocks : ℕ → Lasting
no_blocks number = record { slots = values.Int (pos number) ∷ []; blocks = [] }

-- a block before its first call
abbrev pub one_block : Lasting
one_block = record { slots = []; blocks = at_first GearLevel ∷ [] }

-- a function with one input, whose words begin here, and its slots there
abbrev function_at : ℕ → ℕ → FunctionBody
function_at start first = record { start = start; first = first; inputs = 1; slots = 2 }

abbrev load : ℕ → Word
load slot = words.Load false (operands.Slot slot)

abbrev store : ℕ → Word
store slot = words.Store false (targets.Slot slot)

abbrev constant : ℕ → Word
constant number = words.Load false (operands.Constant number)

abbrev give : ℕ → ℕ → Word
give number slot = words.Give (operands.Constant number) slot

abbrev with_function : List IlType
with_function = level ∷ level ∷ level ∷ []

-- 100 is given to a function that leaves its input, and the result is stored
abbrev pub calling : Listing
calling =
    code_of with_function (give 1 1 ∷ words.Invoke 0 ∷ store 0 ∷ load 1 ∷ store 2 ∷ []) (function_at 3 1 ∷ [])

-- a jump at FALSE, which LDN makes of TRUE
abbrev pub jumping : Listing
jumping =
    code_of (level ∷ [])
    (words.Load true (operands.Constant 3) ∷ words.Jump IfTrue 3 ∷ constant 0 ∷ []) []

-- 200 SUB (100)
abbrev pub closing : Listing
closing =
    code_of (level ∷ []) (constant 2 ∷ words.Open Sub ∷ constant 1 ∷ words.Close ∷ store 0 ∷ []) []

-- 200 SUB (the function of 100)
abbrev pub calling_inside : Listing
calling_inside =
    code_of with_function
    (constant 2
    ∷ words.Open Sub
    ∷ give 1 1
    ∷ words.Invoke 0
    ∷ words.Close
    ∷ store 0
    ∷ load 1
    ∷ store 2
    ∷ [])
    (function_at 6 1 ∷ [])

-- the second of two functions is called with 200
abbrev pub calling_second : Listing
calling_second =
    code_of (level ∷ level ∷ level ∷ level ∷ level ∷ [])
    (give 2 3 ∷ words.Invoke 1 ∷ store 0 ∷ load 1 ∷ store 2 ∷ load 3 ∷ store 4 ∷ [])
    (function_at 3 1 ∷ function_at 5 3 ∷ [])

-- GEAR_LEVEL is called with REQ TRUE
abbrev pub requesting : Listing
requesting =
    record (code_of [] (words.Pass 0 0 (operands.Constant 3) ∷ words.Call 0 ∷ []) []) { kinds = GearLevel ∷ [] }
