-- The words of code that lines become, each with its place in the text (profile): one word each, but two of LIMIT (MAX
-- and MIN); one for each piece between the two of `OP(` and `)`; one for each argument before that of CAL, and of CALC
-- and CALCN a jump before all; one for each operand of a function's call, with one that hands the result over before
-- them and that of the call after them.
use Rattle.std.specs.Prelude.{ℕ, ◌+◌, ◌≤◌, List, [], ◌∷◌, ◌++◌, map, length, replicate, sum_by}
use Rattle.std.specs.Prelude.{Option, Some, IsTrue, ⊤}
use Rattle.std.specs.Option.{option_map_or}
use Rattle.limits.specs.Limits.{most_nesting}
use Rattle.iltypes.specs.declared.condition.Condition.TheVariants.{Always, IfTrue, IfFalse}
use Rattle.iltypes.specs.Operators.{may_defer}
use Rattle.ilsource.specs.declared.instruction.Instruction.{Instruction}
use Rattle.ilsource.specs.declared.instruction.Instruction.TheVariants as instructions
use Rattle.ilsource.specs.declared.instruction.Line.{Line}
use Rattle.ilsource.specs.declared.nested.Piece.{Piece}
use Rattle.ilsource.specs.Trees.{Tree, Load, Reload, Apply, Transform, Deferred, Call, depth, pieces_of}

abbrev pub place_of : {N : Type 0} → Piece N → ℕ
place_of p = p.at

-- the place of each word of an instruction that is at this place: what stands in parentheses has places of its own
abbrev pub places_of : {N L : Type 0} → ℕ → Instruction N L → List ℕ
places_of at (instructions.Deferred operator t close) = at ∷ (map place_of (pieces_of t) ++ close ∷ [])
places_of at (instructions.Limit low high) = at ∷ at ∷ []
places_of at (instructions.Call Always n xs) = replicate (length xs + 1) at
places_of at (instructions.Call IfTrue n xs) = replicate (length xs + 2) at
places_of at (instructions.Call IfFalse n xs) = replicate (length xs + 2) at
places_of at (instructions.Invoke f os) = replicate (length os + 2) at
places_of at _ = at ∷ []

-- a label alone is no word
abbrev pub places_in : {N L : Type 0} → Line N L → List ℕ
places_in line = option_map_or (places_of line.at) line.instruction []

-- how many words they are
abbrev pub words_of : {N L : Type 0} → Instruction N L → ℕ
words_of i = length (places_of 0 i)

abbrev pub words_in : {N L : Type 0} → Line N L → ℕ
words_in line = length (places_in line)

abbrev pub words_of_lines : {N L : Type 0} → List (Line N L) → ℕ
words_of_lines lines = sum_by words_in lines

-- each parenthesis in a tree stands after an operator that may be deferred
abbrev pub MayDefer : {N : Type 0} → Tree N → Type 0
MayDefer (Load at negated o) = ⊤
MayDefer (Reload t at negated o) = MayDefer t
MayDefer (Apply t at operator o) = MayDefer t
MayDefer (Transform t at function) = MayDefer t
MayDefer (Deferred t at operator u close) = MayDefer t × IsTrue (may_defer operator) × MayDefer u
MayDefer (Call t at f os) = MayDefer t

-- parentheses stand after operators that may be deferred, and no more are open at once than the limit
abbrev pub IsShallow : {N L : Type 0} → Option (Instruction N L) → Type 0
IsShallow (Some (instructions.Deferred operator t close)) =
    IsTrue (may_defer operator) × MayDefer t × (depth t + 1 ≤ most_nesting)
IsShallow _ = ⊤

abbrev pub AreShallow : {N L : Type 0} → List (Line N L) → Type 0
AreShallow [] = ⊤
AreShallow (line ∷ lines) = IsShallow line.instruction × AreShallow lines
