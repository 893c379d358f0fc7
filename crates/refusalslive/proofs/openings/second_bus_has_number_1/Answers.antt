use Rattle.refusalslive.proofs.Opened.{has_number}
use Rattle.refusalslive.proofs.openings.second_bus_has_number_1.Goals as goal

pub returns : goal.returns
returns g c =
    has_number g.S.Line.Bus.log g.S.Clock.Clock.log (g.S.Site.is_of c.args.site.now) (g.S.Site.is_timed c.args.site.now)
    c.args.setup c.args.lines.now c.args.options.now 0 c.open.result c.open.ensures.opened
