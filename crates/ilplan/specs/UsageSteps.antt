-- Which functions lines use, found from the last function to the first.
use Rattle.std.specs.Prelude.{◌≡◌, ℕ, ◌<◌, ◌||◌, ◌&&◌, nat_lt, List, [], length, drop, map, is_some, Bool, false, get_or}
use Rattle.std.specs.Prelude.{Option, None, Some, option_and_then}
use Rattle.std.specs.List.{list_any}
use Rattle.std.specs.Option.{option_map_or}
use Rattle.ilsource.specs.declared.instruction.Instruction.{Instruction}
use Rattle.ilsource.specs.declared.instruction.Instruction.TheVariants.{Deferred, Invoke}
use Rattle.ilsource.specs.declared.instruction.Line.{Line}
use Rattle.ilsource.specs.declared.nested.Piece.{Piece}
use Rattle.ilsource.specs.Trees.{pieces_of}
use Rattle.ilplan.specs.declared.place.Place.{Place}
use Rattle.ilplan.specs.Functions.{PlannedFunction, calls, those_in, used_from}

-- what stands in the parentheses of a line
abbrev pub pieces_by : Instruction Place ℕ → List (Piece Place)
pieces_by (Deferred operator t close) = pieces_of t
pieces_by _ = []

abbrev pub pieces_in : Line Place ℕ → List (Piece Place)
pieces_in line = option_map_or pieces_by line.instruction []

-- the function that a line calls
abbrev pub callee_by : Instruction Place ℕ → Option Place
callee_by (Invoke f os) = Some f
callee_by _ = None

abbrev pub callee_in : Line Place ℕ → Option Place
callee_in line = option_and_then callee_by line.instruction

-- those of these functions that stand below a number are added
pub record AreAdded (below : ℕ) (called : ℕ → Bool) (before after : List Bool) : Type 0 where
  pub many : length after ≡ length before
  pub each : (number : ℕ) → number < length before
      → get_or after number false ≡ (get_or before number false || (nat_lt number below && called number))

-- from this number on it is known which functions lines use; before it, which the lines or those functions call
pub record AreFound (lines : List (Line Place ℕ)) (functions : List PlannedFunction) (from : ℕ) (used : List Bool)
    : Type 0 where
  pub many : length used ≡ length functions
  pub found : drop from used ≡ map is_some (used_from lines from (drop from functions))
  pub called : (number : ℕ) → number < from → number < length functions
      → get_or used number false
      ≡ (calls lines number
      || list_any (λ g. calls g.lines number) (those_in (used_from lines from (drop from functions))))
