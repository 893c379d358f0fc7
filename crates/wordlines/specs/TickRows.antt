-- Ticks that one line says (profile): a moment, and each one that comes so much later, up to the last.
use Rattle.std.specs.Prelude.{ℕ, ◌+◌, ◌-◌, ◌*◌, ◌/◌, ◌<◌, ◌≤◌, nat_le, nat_lt, ◌&&◌, if◌then◌else◌}
use Rattle.std.specs.Prelude.{Option, Some, None}

-- from a moment up to another one, each so much later than the one before
pub record TickRow : Type 0 where
  pub from : ℕ
  pub to : ℕ
  pub every : ℕ

-- there is one at least, and each comes later than the one before
pub record IsTickRow (row : TickRow) : Type 0 where
  pub some : row.from ≤ row.to
  pub later : 0 < row.every

-- ticks by their numbers, where they are a row
abbrev pub row_of : ℕ → ℕ → ℕ → Option TickRow
row_of from to every =
    if nat_le from to && nat_lt 0 every then Some (record { from = from; to = to; every = every }) else None

-- how many come behind the first
abbrev pub further : TickRow → ℕ
further row = (row.to - row.from) / row.every

-- the moment of one of them, by its place from 0
abbrev pub moment_at : TickRow → ℕ → ℕ
moment_at row place = row.from + place * row.every
