use Rattle.std.proofs.Common.{true}
use Rattle.commissioning.specs.Surveys.{AreParts, AsksMore, IsInstancePart}
use Rattle.commissioning.proofs.surveys.ask_device.Given as goal

abbrev pub invariant-loop-number : goal.invariant-loop-number
invariant-loop-number g l =
    AsksMore (AreParts (IsInstancePart l.address true) l.number) l.initial.asked.items l.asked.items
    (g.B.Bus.log l.initial.bus) (g.B.Bus.log l.bus)
