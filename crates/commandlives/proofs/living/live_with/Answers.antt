use Rattle.std.proofs.Common.{ℕ, subst}
use Rattle.livehouse.specs.Buildings.{IsOpened}
use Rattle.commandlives.proofs.LivesOut.{lived_out}
use Rattle.commandlives.proofs.living.live_with.Goals as goal

pub returns-clause-lived : goal.returns-clause-lived
returns-clause-lived g c =
    λ binding text file begun.
    let site = c.args.grounds.now.site.now in
    let opened = subst (λ (begins : ℕ). IsOpened g.S.Line.Bus.log g.S.Clock.Clock.log (g.S.Site.is_of site)
    (g.S.Site.is_timed site) c.args.begun.setup c.args.lines.now c.args.options.now begins c.in_ok-building.building)
    c.begins-begins.ensures.value c.in_ok-building.ensures.opened in
    lived_out binding text file g.S.Line.Bus.log g.S.Clock.Clock.log (g.S.Site.is_of site)
    (g.S.Site.is_timed site) c.args.lines.now c.args.options.now c.args.begun
    c.in_ok-building.building c.in_ok-lived.lived c.scans_are_as_meant.ensures c.kept_scans_are_as_meant.ensures begun
    opened c.in_ok-lived.ensures.lived
