-- What is wrong with a jump, by the numbers of lines that are kept under labels.
use Rattle.std.specs.Prelude.{◌≡◌, ℕ, ◌<◌, ◌≤◌, List, Option, Some, None, bytes_eq, slice_get}
use Rattle.std.specs.Map.{lookup}
use Rattle.ilsource.specs.declared.instruction.Instruction.{Instruction}
use Rattle.ilsource.specs.declared.instruction.Line.{Line}
use Rattle.ilsource.specs.declared.name.Name.{Name}
use Rattle.ilsource.specs.declared.symbol.Symbol.{Symbol}
use Rattle.ilsource.specs.Names.{folded}
use Rattle.ildeclared.specs.Kept.{Kept}
use Rattle.ildeclared.specs.declared.fault.NameCause.{NameCause}
use Rattle.ildeclared.specs.declared.fault.NameCause.TheVariants.{UnknownLabel, BackwardJump}
use Rattle.ilscope.specs.UseFaults.{JumpsTo}

-- what is wrong with a jump of the line with this number, where the first line with its label has that one
abbrev pub IsCauseOfJump : Option ℕ → ℕ → NameCause → Type 0
IsCauseOfJump None number cause = cause ≡ UnknownLabel
IsCauseOfJump (Some first) number cause = (first ≤ number) × (cause ≡ BackwardJump)

-- the fault of the instruction of the line with this number, where labels are kept like this
abbrev pub IsFaultOfJump : List ℕ → Kept ℕ → ℕ → Option (Instruction Symbol Name) → ℕ → NameCause → Type 0
IsFaultOfJump text kept number instruction place cause =
    JumpsTo (λ label. IsCauseOfJump (lookup (bytes_eq (folded text label)) kept) number cause) place instruction

-- a fault of one of the first so many lines
pub record IsFaultBefore (text : List ℕ) (kept : Kept ℕ) (lines : List (Line Symbol Name)) (bound : ℕ) (place : ℕ)
    (cause : NameCause) : Type 0 where
  pub number : ℕ
  pub line : Line Symbol Name
  pub below : number < bound
  pub is : slice_get lines number ≡ Some line
  pub fault : IsFaultOfJump text kept number line.instruction place cause
