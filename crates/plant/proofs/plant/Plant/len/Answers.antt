use Rattle.std.proofs.Common.{◌+◌, ◌≤◌, length, subst}
use Rattle.plant.specs.Shown.{Shown, kept}
use Rattle.plant.proofs.Growing.{within_limit}
use Rattle.plant.proofs.plant.Plant.len.Goals as goal

pub returns-clause-within : goal.returns-clause-within
returns-clause-within c =
    subst (λ (p : Shown). length p.history + kept p ≤ p.limit) c.self.view_is (within_limit _ _ c.self.invariant)
