-- Whether two names are one, as a truth value (IEC 61131-3, 2.1.2: letter case does not matter).
use Rattle.std.specs.Prelude.{ℕ, List, Bool, bytes_eq}
use Rattle.ilsource.specs.declared.name.Name.{Name}
use Rattle.ilsource.specs.Names.{folded}

-- both are spelled alike, in a text
abbrev pub same_name : List ℕ → Name → Name → Bool
same_name text one other = bytes_eq (folded text one) (folded text other)
