use Rattle.wordlines.proofs.SaidTries.{tries_fit}
use Rattle.ilplan.proofs.plan.Plan.tries.Goals as goal

pub returns-clause-range : goal.returns-clause-range
returns-clause-range c =
    let tries = c.self.inside.tries.items in
    rw (c.tries_in.ensures.value, c.deref.ensures.value) (tries_fit _ tries _ c.self.invariant.wiring.tries)
