-- The targets of the jumps in lines, which the compiler finds before it makes the words; and the functions that are
-- used, by a truth value for each.
use Rattle.std.specs.Prelude.{◌≡◌, ℕ, ◌+◌, nat_eq, List, [], ◌∷◌, ◌++◌, map, reverse, Option, Some, None}
use Rattle.std.specs.Prelude.{Bool, true, false}
use Rattle.std.specs.HashMap.{get, HashMap}
use Rattle.std.specs.Option.{unwrap_or}
use Rattle.ilsource.specs.declared.instruction.Instruction.{Instruction}
use Rattle.ilsource.specs.declared.instruction.Instruction.TheVariants as instructions
use Rattle.ilsource.specs.declared.instruction.Line.{Line}
use Rattle.ilsource.specs.declared.operand.Operand.{Operand}
use Rattle.ilsource.specs.Trees.{give_pieces}
use Rattle.ilsource.specs.Words.{words_in}
use Rattle.ilplan.specs.declared.place.Place.{Place}
use Rattle.ilplan.specs.Functions.{PlannedFunction}
use Rattle.ilcode.specs.declared.word.Word.{Word}
use Rattle.ilcompile.specs.Layout.{Numbers, place_of_label, word_of}

-- the target of an instruction that jumps to a label
abbrev pub target_of : (ℕ → ℕ) → Option (Instruction Place ℕ) → List ℕ
target_of target (Some (instructions.Jump condition label)) = target label ∷ []
target_of target _ = []

-- the target of each jump to a label, in lines of which the first word is at this place
abbrev pub targets_of : ℕ → List (Line Place ℕ) → List ℕ
targets_of place [] = []
targets_of place (line ∷ lines) =
    let next = place + words_in line in
    target_of (place_of_label next lines) line.instruction ++ targets_of next lines

-- the place of a label, and 0 where it has none
abbrev pub place_in : {S : Type 0} → HashMap ℕ ℕ S → ℕ → ℕ
place_in labels label = unwrap_or (get nat_eq labels label) 0

-- the target is that of the instruction, which was the last one, and the others are left
abbrev pub IsTaken : Option (Instruction Place ℕ) → List ℕ → List ℕ → ℕ → Type 0
IsTaken instruction old new target =
    (wanted : ℕ → ℕ) (others : List ℕ) → reverse old ≡ target_of wanted instruction ++ others
    → (reverse new ≡ others) × (target_of wanted instruction ≡ target_of (λ label. target) instruction)

-- the words that give operands to the inputs of a function, from the one of this number on
abbrev pub gives_from : Numbers → Place → ℕ → List (Operand Place) → List Word
gives_from n f number os = map (λ p. word_of n p.action) (give_pieces 0 f number os)

-- each of the functions where its truth value is TRUE
abbrev pub picked : List PlannedFunction → List Bool → List (Option PlannedFunction)
picked (f ∷ fs) (true ∷ used) = Some f ∷ picked fs used
picked (f ∷ fs) (false ∷ used) = None ∷ picked fs used
picked _ _ = []
