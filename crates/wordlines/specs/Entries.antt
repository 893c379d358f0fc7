-- What a line of a scenario stands for (profile): its statement, or a statement for each of its ticks.
use Rattle.std.specs.Prelude.{ℕ, ◌+◌, List, [], ◌∷◌, map}
use Rattle.std.specs.List.{range_with_len}
use Rattle.wordlines.specs.TickRows.{TickRow, further, moment_at}
use Rattle.wordlines.specs.declared.entries.ScenarioEntry.{ScenarioEntry}
use Rattle.wordlines.specs.declared.entries.ScenarioEntry.TheVariants.{One, Ticks}
use Rattle.wordlines.specs.declared.statements.Statement.{Statement}
use Rattle.wordlines.specs.declared.statements.Statement.TheVariants.{Tick}

-- the first ticks of a row, so many
abbrev pub first_ticks : TickRow → ℕ → List Statement
first_ticks row count = map (λ place. Tick (moment_at row place)) (range_with_len 0 count)

abbrev pub statements_of : ScenarioEntry → List Statement
statements_of (One statement) = statement ∷ []
statements_of (Ticks row) = first_ticks row (further row + 1)
