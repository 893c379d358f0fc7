use Rattle.commissioning.specs.Surveys.{AreParts, AsksMore, IsQueryPart}
use Rattle.commissioning.proofs.surveys.ask_queries.Given as goal

abbrev pub invariant-loop-number : goal.invariant-loop-number
invariant-loop-number g l =
    AsksMore (AreParts (IsQueryPart l.address) l.number) l.initial.asked.items l.asked.items
    (g.B.Bus.log l.initial.bus) (g.B.Bus.log l.bus)
