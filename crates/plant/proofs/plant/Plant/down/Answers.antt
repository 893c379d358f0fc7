use Rattle.std.proofs.Common.{sym, subst}
use Rattle.plantevents.specs.Legal.{IsUp}
use Rattle.plant.specs.Shown.{Shown, plant_of}
use Rattle.plant.proofs.Growing.{down_says, some_left}
use Rattle.plant.proofs.plant.Plant.down.Goals as goal

pub overflow_sub-self : goal.overflow_sub-self
overflow_sub-self c =
    let up = subst (λ (p : Shown). IsUp p.plant p.history c.args.bus) (sym c.self.view_is)
    c.in_ok-is_up.ensures.allowed in
    some_left _ _ c.args.bus c.self.invariant up

pub invariant_of-self : goal.invariant_of-self
invariant_of-self c =
    let p = c.self.inside in let says = c.self.invariant in
    let up = subst (λ (p : Shown). IsUp p.plant p.history c.args.bus) (sym c.self.view_is)
    c.in_ok-is_up.ensures.allowed in
    rw c.push.ensures (down_says _ _ c.args.bus _ says up
    (c.other_events_leave_tasks.ensures.down (plant_of p.setup p.workers) c.args.bus p.history.items p.tasks
    says.each_task)
    (c.note_down.ensures (plant_of p.setup p.workers) p.history.items says.each_bus))
