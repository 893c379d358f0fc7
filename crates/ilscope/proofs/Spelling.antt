-- A name's key in a text whose letters are in lower case.
use Rattle.std.proofs.Common.{◌≡◌, ℕ, List, refl}
use Rattle.std.proofs.lemmas.List.{take-map, drop-map}
use Rattle.std.specs.Char.{to_ascii_lowercase}
use Rattle.ilsource.specs.declared.name.Name.{Name}
use Rattle.ilsource.specs.Names.{folded, text_of}
use Rattle.ilscope.specs.Tables.{lowered}

-- a name's key in the lower text is the name in lower case
pub key_is : (text : List ℕ) (n : Name) → text_of (lowered text) n ≡ folded text n
key_is text n = rw (drop-map to_ascii_lowercase n.from text, take-map to_ascii_lowercase) refl
