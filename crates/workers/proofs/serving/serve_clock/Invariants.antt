use Rattle.plantturns.specs.Logs.{IsTimed}
use Rattle.workers.proofs.serving.serve_clock.Given as goal

abbrev pub invariant-loop : goal.invariant-loop
invariant-loop g l =
    (goal.iterator-loop g).can_next l.iterator' × (goal.iterator-loop g).is_finite l.iterator'
    × IsTimed g.J.Links.clock l.timed.share (g.C.Clock.log l.timed.clock)
