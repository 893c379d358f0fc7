-- The labels of a program's lines, each kept with the number of the first line that has it.
use Rattle.std.specs.Prelude.{◌≡◌, ℕ, List, bytes_eq}
use Rattle.std.specs.Map.{lookup}
use Rattle.ilsource.specs.declared.instruction.Line.{Line}
use Rattle.ilsource.specs.Passes.{has_label}
use Rattle.ilsource.specs.declared.name.Name.{Name}
use Rattle.ilsource.specs.declared.symbol.Symbol.{Symbol}
use Rattle.ilsource.specs.Names.{folded}
use Rattle.ildeclared.specs.Kept.{Kept}
use Rattle.ilscope.specs.Tables.{first_at}
use Rattle.ilscope.specs.SameNames.{same_name}

-- under each label of the lines the number of the first line that has it is kept
abbrev pub AreNumbered : List ℕ → List (Line Symbol Name) → Kept ℕ → Type 0
AreNumbered text lines kept =
    (label : Name)
    → lookup (bytes_eq (folded text label)) kept ≡ first_at (λ line. has_label (same_name text) label line.label) lines
