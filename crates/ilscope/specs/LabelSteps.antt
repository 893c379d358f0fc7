-- How the labels of a program's lines are kept, one line after another.
use Rattle.std.specs.Prelude.{◌≡◌, ℕ, List, Option, Some, None, IsSome, IsSomeAnd, bytes_eq}
use Rattle.std.specs.Map.{lookup}
use Rattle.ilsource.specs.declared.name.Name.{Name}
use Rattle.ilsource.specs.Names.{folded}
use Rattle.ildeclared.specs.Kept.{Kept, KeepsToo}

-- what is kept is still kept, and the number of this line too, where it has a label and that is new
abbrev pub KeepsLabel : List ℕ → Option Name → ℕ → Kept ℕ → Kept ℕ → Type 0
KeepsLabel text None number before after = after ≡ before
KeepsLabel text (Some label) number before after = KeepsToo (folded text label) number before after

-- there is a label, at the place, and it is kept already
abbrev pub IsKeptLabel : List ℕ → Kept ℕ → Option Name → ℕ → Type 0
IsKeptLabel text kept label place =
    IsSomeAnd label (λ l. IsSome (lookup (bytes_eq (folded text l)) kept) × (place ≡ l.from))
