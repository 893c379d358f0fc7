use Rattle.std.proofs.Common.{sym, subst}
use Rattle.ilplan.specs.Plans.{Planned}
use Rattle.ilcompile.specs.Loaded.{AreCodes, accepted_of}
use Rattle.ilcompile.proofs.Beginnings.{codes_begun}
use Rattle.ilcompile.proofs.setup.Setup.begin_with.Goals as goal

pub invariant_of-self : goal.invariant_of-self
invariant_of-self c =
    let codes = accepted_of c.self.inside.verified.items in
    subst (λ (p : Planned). AreCodes p codes) (sym c.begin_with.ensures)
    (codes_begun c.self.inside.plan c.args.globals.now _ codes c.self.invariant)
