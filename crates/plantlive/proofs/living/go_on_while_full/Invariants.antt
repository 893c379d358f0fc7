use Rattle.std.proofs.Common.{List}
use Rattle.buslink.specs.BusLog.{BusLog}
use Rattle.buslink.specs.ClockLog.{ClockLog}
use Rattle.plantevents.specs.Plants.{Plant}
use Rattle.plantlive.specs.LivesSteps.{IsSince}
use Rattle.plantlive.proofs.living.go_on_while_full.Given as goal

abbrev pub invariant-loop : goal.invariant-loop
invariant-loop g l =
    (goal.iterator-loop g).can_next l.iterator' × (goal.iterator-loop g).is_finite l.iterator'
    × ((p : Plant) (logs : List BusLog) (first : ClockLog)
    → IsSince p logs first g.B.Bus.log g.C.Clock.log l.fn.left
    → IsSince p logs first g.B.Bus.log g.C.Clock.log l.left)
