-- Names and how they are compared (IEC 61131-3, 2.1.2: letter case does not matter in identifiers).
use Rattle.std.specs.Prelude.{◌≡◌, ℕ, ◌-◌, List, take, drop, map}
use Rattle.std.specs.Char.{to_ascii_lowercase}
use Rattle.ilsource.specs.declared.name.Name.{Name}

-- the bytes of a name, as they are written in the text
abbrev pub text_of : List ℕ → Name → List ℕ
text_of text name = take (name.to - name.from) (drop name.from text)

-- how a name is compared: its letters in lower case
abbrev pub folded : List ℕ → Name → List ℕ
folded text name = map to_ascii_lowercase (text_of text name)

-- both are spelled alike, without regard to letter case
abbrev pub SameName : List ℕ → Name → Name → Type 0
SameName text one other = folded text one ≡ folded text other
