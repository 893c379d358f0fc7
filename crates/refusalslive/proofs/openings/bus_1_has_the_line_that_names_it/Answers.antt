use Rattle.refusalslive.proofs.Opened.{has_line}
use Rattle.refusalslive.proofs.openings.bus_1_has_the_line_that_names_it.Goals as goal

pub returns : goal.returns
returns g c =
    has_line g.S.Line.Bus.log g.S.Clock.Clock.log (g.S.Site.is_of c.args.site.now) (g.S.Site.is_timed c.args.site.now)
    c.args.setup c.args.lines.now c.args.options.now 0 g.line c.open.result c.open.ensures.opened
    c.requires.1.1.1.1.1.0 c.requires.1.1.1.1.1.1
