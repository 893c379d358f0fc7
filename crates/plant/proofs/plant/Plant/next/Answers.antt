use Rattle.std.proofs.Common.{◌≡◌, length, not, subst}
use Rattle.std.specs.Prelude.{is_some}
use Rattle.plant.specs.Refusals.{none_free}
use Rattle.plant.specs.Shown.{Shown, plant_of}
use Rattle.plant.proofs.Choosing.{none_free_of}
use Rattle.plant.proofs.plant.Plant.next.Goals as goal

pub returns-clause-none : goal.returns-clause-none
returns-clause-none c =
    let p = c.self.inside in let plant = plant_of p.setup p.workers in
    subst (λ (p : Shown). none_free p.plant p.history (length p.plant.plan.tasks) ≡ not (is_some c.next.result))
    c.self.view_is
    (none_free_of plant p.history.items (length plant.plan.tasks) c.next.result
    (c.next.ensures.next plant p.history.items c.self.invariant.each_task))
