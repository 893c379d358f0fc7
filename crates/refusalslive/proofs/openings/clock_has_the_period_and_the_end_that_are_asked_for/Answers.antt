use Rattle.std.proofs.Common.{refl}
use Rattle.refusalslive.proofs.Opened.{has_clock}
use Rattle.refusalslive.proofs.openings.clock_has_the_period_and_the_end_that_are_asked_for.Goals as goal

pub returns : goal.returns
returns g c =
    has_clock g.S.Line.Bus.log g.S.Clock.Clock.log (g.S.Site.is_of c.args.site.now) (g.S.Site.is_timed c.args.site.now)
    c.args.setup c.args.lines.now c.args.options.now 3000 c.open.result c.open.ensures.opened
    refl c.requires.period c.requires.seconds c.requires.stop
