use Rattle.std.proofs.Common.{◌≡◌, ◌<◌, true, false, length, sym, subst, arith}
use Rattle.std.proofs.lemmas.List.{get_or-set_same}
use Rattle.plantevents.specs.declared.role.Role.TheVariants.{Bus}
use Rattle.plantevents.specs.Legal.{IsUp}
use Rattle.plant.specs.Shown.{Shown}
use Rattle.plant.specs.Refusals.{is_full_for}
use Rattle.plant.proofs.Growing.{reserved_says}
use Rattle.plant.proofs.plant.Plant.may_hear.Goals as goal

pub invariant_of-self : goal.invariant_of-self
invariant_of-self c =
    let up = subst (λ (p : Shown). IsUp p.plant p.history c.args.bus) (sym c.self.view_is)
    c.in_ok-allows_frame.ensures.up in
    let room = subst (λ (p : Shown). is_full_for (Bus c.args.bus) p ≡ false) (sym c.self.view_is)
    c.in_ok-allows_frame.ensures.room in
    rw c.keep_place_of.ensures.kept (reserved_says _ _ c.args.bus _ c.self.invariant up room
    c.keep_place_of.ensures.more)

pub returns-clause-keeps : goal.returns-clause-keeps
returns-clause-keeps c =
    let up = subst (λ (p : Shown). IsUp p.plant p.history c.args.bus) (sym c.self.view_is)
    c.in_ok-allows_frame.ensures.up in
    let places = c.self.inside.bus_places.items in
    let known : c.args.bus < length places =
    let e = c.self.invariant.each_place in let u = up.known in omega arith in
    rw c.keep_place_of.ensures.kept (get_or-set_same places c.args.bus true false known)
