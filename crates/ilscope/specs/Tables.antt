-- How names are looked up: a name is that of the first that is spelled alike (IEC 61131-3, 2.1.2).
use Rattle.std.specs.Prelude.{ℕ, suc, List, [], ◌∷◌, map, Option, Some, None, Bool, bytes_eq, option_map, if◌then◌else◌}
use Rattle.std.specs.Char.{to_ascii_lowercase}
use Rattle.ilsource.specs.declared.name.Name.{Name}
use Rattle.ildeclared.specs.declared.block.DeclaredBlock.{DeclaredBlock}
use Rattle.ildeclared.specs.declared.external.DeclaredExternal.{DeclaredExternal}
use Rattle.ildeclared.specs.declared.variable.DeclaredVariable.{DeclaredVariable}

-- a text with letters in lower case
abbrev pub lowered : List ℕ → List ℕ
lowered text = map to_ascii_lowercase text

-- the place of the first element that passes
abbrev pub first_at : {X : Type 0} → (X → Bool) → List X → Option ℕ
first_at test [] = None
first_at test (x ∷ xs) = if test x then Some 0 else option_map suc (first_at test xs)

-- the number of the first variable with the name; `spelled` is how names are compared
abbrev pub variable_number : (Name → List ℕ) → List DeclaredVariable → Name → Option ℕ
variable_number spelled variables name =
    first_at (λ variable. bytes_eq (spelled name) (spelled variable.name)) variables

-- the number of the first block instance with the name
abbrev pub block_number : (Name → List ℕ) → List DeclaredBlock → Name → Option ℕ
block_number spelled blocks name = first_at (λ block. bytes_eq (spelled name) (spelled block.name)) blocks

-- the number of the first external with the name
abbrev pub external_number : (Name → List ℕ) → List DeclaredExternal → Name → Option ℕ
external_number spelled externals name =
    first_at (λ external. bytes_eq (spelled name) (spelled external.name)) externals
