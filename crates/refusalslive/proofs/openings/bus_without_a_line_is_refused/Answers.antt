use Rattle.refusalslive.proofs.Opened.{none_without}
use Rattle.refusalslive.proofs.openings.bus_without_a_line_is_refused.Goals as goal

pub returns : goal.returns
returns g c =
    none_without g.S.Line.Bus.log g.S.Clock.Clock.log (g.S.Site.is_of c.args.site.now) (g.S.Site.is_timed c.args.site.now)
    c.args.setup c.args.lines.now c.args.options.now 0 c.open.result c.open.ensures.opened
    c.requires.buses c.requires.line
