use Rattle.livehouse.specs.Sites.{AreNewBuses, AreReached}
use Rattle.livehouse.proofs.buildings.open_lines.Given as goal

abbrev pub invariant-loop-bus : goal.invariant-loop-bus
invariant-loop-bus g l =
    AreNewBuses g.S.Line.Bus.log l.bus l.opened.items
    × AreReached (g.S.Site.is_of l.fn.site) l.fn.lines l.fn.patience l.opened.items
