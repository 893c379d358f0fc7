-- What happens on the buses of a scenario (profile): its ticks, events and faults of hearing, in the order of their
-- lines.
use Rattle.std.specs.Prelude.{ℕ, Option, Some, None, List}
use Rattle.std.specs.List.{filter_map}
use Rattle.wordlines.specs.declared.statements.Statement.{Statement}
use Rattle.wordlines.specs.declared.statements.Statement.TheVariants as statement
use Rattle.wordlines.specs.declared.happenings.Happening.{Happening}
use Rattle.wordlines.specs.declared.happenings.Happening.TheVariants.{Tick, Event, HearFault}

-- what happens by a statement: all others say what is on the buses
abbrev pub happening_of : Statement → Option Happening
happening_of (statement.Tick moment) = Some (Tick moment)
happening_of (statement.Event bus frame) = Some (Event bus frame)
happening_of (statement.HearFault bus) = Some (HearFault bus)
happening_of _ = None

abbrev pub happenings : List Statement → List Happening
happenings statements = filter_map happening_of statements

-- the moments of the ticks
abbrev pub tick_in : Statement → Option ℕ
tick_in (statement.Tick moment) = Some moment
tick_in _ = None

abbrev pub ticks : List Statement → List ℕ
ticks statements = filter_map tick_in statements
