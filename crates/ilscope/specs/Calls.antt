-- The calls of functions in lines, with how many operands each has (IEC 61131-3, 2.5.1 and 3.2.3).
use Rattle.std.specs.Prelude.{ℕ, List, [], ◌∷◌, ◌++◌, flat_map, length}
use Rattle.std.specs.Option.{option_map_or}
use Rattle.ilsource.specs.declared.instruction.Instruction.{Instruction}
use Rattle.ilsource.specs.declared.instruction.Instruction.TheVariants as instructions
use Rattle.ilsource.specs.declared.instruction.Line.{Line}
use Rattle.ilsource.specs.declared.name.Name.{Name}
use Rattle.ilsource.specs.declared.symbol.Symbol.{Symbol}
use Rattle.ilsource.specs.Trees.{Tree, Load, Reload, Apply, Transform, Deferred, Call}
use Rattle.ilscope.specs.declared.calls.FunctionCall.{FunctionCall}

abbrev pub call : Symbol → ℕ → FunctionCall
call function operands = record { function = function; operands = operands }

-- those in parentheses
abbrev pub calls_in : Tree Symbol → List FunctionCall
calls_in (Load at negated o) = []
calls_in (Reload t at negated o) = calls_in t
calls_in (Apply t at operator o) = calls_in t
calls_in (Transform t at function) = calls_in t
calls_in (Deferred t at operator u close) = calls_in t ++ calls_in u
calls_in (Call t at f os) = calls_in t ++ call f (length os) ∷ []

-- those of an instruction
abbrev pub calls_by : Instruction Symbol Name → List FunctionCall
calls_by (instructions.Deferred operator t close) = calls_in t
calls_by (instructions.Invoke f os) = call f (length os) ∷ []
calls_by _ = []

abbrev pub calls_of_line : Line Symbol Name → List FunctionCall
calls_of_line line = option_map_or calls_by line.instruction []

-- those of lines, in the order of the text
abbrev pub calls_of : List (Line Symbol Name) → List FunctionCall
calls_of lines = flat_map calls_of_line lines
