use Rattle.std.proofs.Common.{arith}
use Rattle.plantrun.proofs.Buses.{one_bus_more}
use Rattle.plantrun.proofs.staging.buses_of.Goals.{in-Some+in_ok-ready_bus+in_ok-push, in_default}
use Rattle.plantrun.proofs.staging.buses_of.Goals as goal

pub loop-bus-preserved : goal.loop-bus-preserved
loop-bus-preserved g c =
    elim c.match-new.branch [
      | in-Some+in_ok-ready_bus+in_ok-push w ↦
          rw (w.made-is, w.in_ok-push.ensures.items)
          (one_bus_more c.args.scenario.now c.loop-bus.bus w.in-Some.number c.loop-bus.made.items _ c.loop-bus.invariant
          w.in_ok-ready_bus.ensures w.in-Some.ensures.1)
      | in_default w ↦ absurd (w.in_default.ensures (omega (arith, c.loop-bus-test.true, c.requires.buses)))
    ]
