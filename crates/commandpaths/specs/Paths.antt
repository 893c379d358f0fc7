-- When two paths of a command lead to one file (profile).
use Rattle.std.specs.Prelude.{◌≡◌, ◌⊎◌, Option, Some, None, string_bytes}
use Rattle.commandpaths.specs.declared.paths.Node.{Node}
use Rattle.commandpaths.specs.declared.paths.Place.{Place}

-- The machine says of both paths which file is there, and it is one.
abbrev pub AreOneFile : Option Node → Option Node → Type 0
AreOneFile (Some node) (Some other) = node ≡ other
AreOneFile None other = ⊥
AreOneFile (Some node) None = ⊥

-- They are one name in one folder, whatever is there.
abbrev pub AreOneName : Place → Place → Type 0
AreOneName place other = (place.folder ≡ other.folder) × (string_bytes place.name ≡ string_bytes other.name)

-- two paths lead to one file
abbrev pub AreOne : Place → Place → Type 0
AreOne place other = AreOneFile place.file other.file ⊎ AreOneName place other
