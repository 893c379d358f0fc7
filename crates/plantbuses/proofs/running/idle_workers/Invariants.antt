use Rattle.plantbuses.specs.KeptSteps.{AreIdle}
use Rattle.plantbuses.proofs.running.idle_workers.Given as goal

abbrev pub invariant-loop : goal.invariant-loop
invariant-loop l = AreIdle l.counter l.scans.items
