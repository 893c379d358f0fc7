use Rattle.std.proofs.Common.{◌+◌, List, sym, subst}
use Rattle.livehouse.specs.Sites.{AreNewBuses, AreReached}
use Rattle.livehouse.proofs.Lines.{one_line_more}
use Rattle.livehouse.proofs.buildings.open_lines.Goals as goal

pub loop-bus-preserved : goal.loop-bus-preserved
loop-bus-preserved g c =
    let is_of = g.S.Site.is_of c.args.site.now in
    subst (λ (xs : List g.row.S-Line.Denot). AreNewBuses g.S.Line.Bus.log (c.loop-bus.bus + 1) xs
    × AreReached is_of c.args.lines.now c.args.patience xs) (sym c.in_ok-push.ensures.items)
    (one_line_more g.S.Line.Bus.log is_of c.args.lines.now c.args.patience c.loop-bus.bus c.loop-bus.opened.items
    c.in_ok-line.line c.loop-bus.invariant c.in_ok-line.ensures.new c.in_ok-line.ensures.reached)
