-- What is kept under names.
use Rattle.std.specs.Prelude.{◌≡◌, ℕ, List, Option, Some, None, bytes_eq, if◌then◌else◌}
use Rattle.std.specs.Map.{lookup}
use Rattle.std.specs.Option.{option_or}
use Rattle.ilsource.specs.Names.{text_of}
use Rattle.ilsource.specs.declared.name.Name.{Name}
use Rattle.ildeclared.specs.DataTypes.{TypeNames}
use Rattle.ildeclared.specs.declared.data_type.DataType.{DataType}

-- what is kept under different names, each with its letters in lower case
abbrev pub Kept : Type 0 → Type 0
Kept X = List (List ℕ × X)

-- what is kept is still kept, and this value too under this name, where the name is new
abbrev pub KeepsToo : {X : Type 0} → List ℕ → X → Kept X → Kept X → Type 0
KeepsToo name value before after =
    (key : List ℕ) → lookup (bytes_eq key) after
    ≡ option_or (lookup (bytes_eq key) before) (if bytes_eq key name then Some value else None)

-- what is kept under a name of a text with letters in lower case
abbrev pub kept_under : {X : Type 0} → List ℕ → Kept X → Name → Option X
kept_under lower kept name = lookup (bytes_eq (text_of lower name)) kept

-- what names of types mean by what is kept under them
abbrev pub types_in : List ℕ → Kept (Option DataType) → TypeNames
types_in lower kept = kept_under lower kept
