use Rattle.plantturns.specs.Links.{log_of}
use Rattle.plantturns.specs.Handouts.{AreFollowed}
use Rattle.plantturns.specs.Logs.{IsServed}
use Rattle.workers.proofs.serving.serve_bus.Given as goal

abbrev pub invariant-loop : goal.invariant-loop
invariant-loop g l =
    (goal.iterator-loop g).can_next l.iterator' × (goal.iterator-loop g).is_finite l.iterator'
    × IsServed (log_of g.J.Links.buses l.bus) l.bus l.served.share (g.B.Bus.log l.served.line)
    × AreFollowed 0 l.fn.served.share l.served.share (g.B.Bus.log l.fn.served.line)
    (g.B.Bus.log l.served.line)
