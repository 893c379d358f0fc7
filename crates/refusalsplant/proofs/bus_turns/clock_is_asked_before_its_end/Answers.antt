use Rattle.plantturns.specs.Logs.{HasEnded}
use Rattle.refusalsplant.proofs.Turned.{ended}
use Rattle.refusalsplant.proofs.bus_turns.clock_is_asked_before_its_end.Goals as goal

pub returns : goal.returns
returns g c = ended g.J.Links.clock (g.C.Clock.log c.tick_once.new.timed.clock) c.tick_once.result c.tick_once.ensures.ended
