use Rattle.std.proofs.Common.{◌≡◌, ◌≤◌, false, sym, subst}
use Rattle.plantevents.specs.Histories.{moment}
use Rattle.plantevents.specs.declared.role.Role.TheVariants.{Clock}
use Rattle.plant.specs.Shown.{Shown}
use Rattle.plant.specs.Refusals.{is_full_for}
use Rattle.plant.proofs.Growing.{tick_says}
use Rattle.plant.proofs.plant.Plant.tick.Goals as goal

pub invariant_of-self : goal.invariant_of-self
invariant_of-self c =
    let p = c.self.inside in let says = c.self.invariant in
    let allowed = subst (λ (p : Shown). (moment p.history ≤ c.args.moment) × (is_full_for Clock p ≡ false))
    (sym c.self.view_is) c.in_ok-allows_tick.ensures.allowed in
    rw (c.push.ensures, c.use_place.ensures.used) (tick_says _ _ c.args.moment _ _ says
    allowed.0 allowed.1 c.use_place.ensures.freed (c.tick.ensures.follows _ p.history.items says.each_task says.place))
