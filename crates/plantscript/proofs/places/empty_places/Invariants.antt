use Rattle.plantscript.specs.DeskSteps.{AreEmpty}
use Rattle.plantscript.proofs.places.empty_places.Given as goal

abbrev pub invariant-loop : goal.invariant-loop
invariant-loop g l = AreEmpty l.counter l.places.items
