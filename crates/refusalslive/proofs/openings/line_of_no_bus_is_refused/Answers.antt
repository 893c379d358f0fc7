use Rattle.refusalslive.proofs.Opened.{none_beyond}
use Rattle.refusalslive.proofs.openings.line_of_no_bus_is_refused.Goals as goal

pub returns : goal.returns
returns g c =
    none_beyond g.S.Line.Bus.log g.S.Clock.Clock.log (g.S.Site.is_of c.args.site.now) (g.S.Site.is_timed c.args.site.now)
    c.args.setup c.args.lines.now c.args.options.now 0 g.line c.open.result c.open.ensures.opened
    c.requires.1.1.1.1.1.0 c.requires.1.1.1.1.1.1.0 c.requires.1.1.1.1.1.1.1
