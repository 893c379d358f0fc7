use Rattle.plantturns.specs.Logs.{IsWorker}
use Rattle.workers.proofs.serving.serve_tasks.Given as goal

abbrev pub invariant-loop : goal.invariant-loop
invariant-loop g l =
    (goal.iterator-loop g).can_next l.iterator' × (goal.iterator-loop g).is_finite l.iterator'
    × IsWorker l.worker l.share
