-- Lines and columns of a text, both counted from 1: a line feed (byte 10) ends a line, and a column counts bytes.
use Rattle.std.specs.Prelude.{ℕ, ◌+◌, List, take, take_while, reverse, length, count_by, ◌==◌, not}

-- the line of the byte at a place: one more than the line feeds before it
abbrev pub line_at : List ℕ → ℕ → ℕ
line_at text at = count_by (λ byte. byte == 10) (take at text) + 1

-- its column: one more than the bytes before it, back to the line feed
abbrev pub col_at : List ℕ → ℕ → ℕ
col_at text at = length (take_while (λ byte. not (byte == 10)) (reverse (take at text))) + 1
