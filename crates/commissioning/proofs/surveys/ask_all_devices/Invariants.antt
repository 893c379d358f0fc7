use Rattle.commissioning.specs.Surveys.{AreParts, AsksMore, IsDevicePart}
use Rattle.commissioning.proofs.surveys.ask_all_devices.Given as goal

abbrev pub invariant-loop-number : goal.invariant-loop-number
invariant-loop-number g l =
    AsksMore (AreParts IsDevicePart l.number) l.initial.asked.items l.asked.items
    (g.B.Bus.log l.initial.bus) (g.B.Bus.log l.bus)
