-- When a word may stand for another one: their digits are the same, and an instruction differs before the end.
use Rattle.std.specs.Prelude.{ℕ, ◌≡◌, ◌-◌, List, [], ◌∷◌, max, length, map, if◌then◌else◌}
use Rattle.std.specs.Char.{is_ascii_digit, to_ascii_lowercase}
use Rattle.explaincures.specs.Trying.{part_of}

-- the digits of a word, one after another
abbrev pub digits_of : List ℕ → List ℕ
digits_of [] = []
digits_of (byte ∷ rest) = if is_ascii_digit byte then byte ∷ digits_of rest else digits_of rest

-- two words are the same but for what stands last in the longer one, letter case aside
abbrev pub DiffersAtEnd : List ℕ → List ℕ → Type 0
DiffersAtEnd one other =
    let most = max (length one) (length other) - 1 in
    map to_ascii_lowercase (part_of one 0 most) ≡ map to_ascii_lowercase (part_of other 0 most)
