use Rattle.std.proofs.Common.{refl, sym, ◌∙◌, subst}
use Rattle.plantevents.specs.declared.event.Event.TheVariants as events
use Rattle.plant.specs.declared.refusal.CallRefusal.TheVariants.{Stranger}
use Rattle.plant.specs.Shown.{Shown}
use Rattle.plant.proofs.Owning.{open_is_own}
use Rattle.plantscript.specs.declared.step.Step.TheVariants as steps
use Rattle.plantscript.specs.declared.step.StepReply.TheVariants.{Noted}
use Rattle.plantscript.proofs.Desks.{Keeps, has_scan, no_order, scan_refused}
use Rattle.plantscript.proofs.Serving.{accepted_at, refused_at}
use Rattle.plantscript.proofs.stepped_plant.SteppedPlant.commit.Goals as goal

pub returns-in-None : goal.returns-in-None
returns-in-None c =
    let p = c.self.inside.plant in let orders = c.self.inside.orders.items in let w = c.args.worker in
    refused_at p _ p (steps.Commit w) Stranger c.self.view_is
    (refl, no_order p orders w c.self.invariant.0 (sym c.take_order.ensures.order ∙ c.in-None.is)) refl

pub invariant_of-self : goal.invariant_of-self
invariant_of-self c = rw (c.take_order.ensures.none c.in-None.is) c.self.invariant

pub commit-requires : goal.commit-requires
commit-requires c =
    let p = c.self.inside.plant in let orders = c.self.inside.orders.items in let w = c.args.worker in
    record {
      own = open_is_own p w c.scan_into.result (has_scan p orders w c.in-Some.work c.scan_into.result c.self.invariant.0
          (sym c.take_order.ensures.order ∙ c.in-Some.is) c.scan_into.ensures.number c.scan_into.ensures.snapshot);
    }

pub returns : goal.returns
returns c =
    let p = c.self.inside.plant in let orders = c.self.inside.orders.items in let w = c.args.worker in
    let made = c.scan_into.result in
    let scanned = has_scan p orders w c.in-Some.work made c.self.invariant.0
    (sym c.take_order.ensures.order ∙ c.in-Some.is) c.scan_into.ensures.number c.scan_into.ensures.snapshot in
    accepted_at p _ c.commit.new.self (steps.Commit w) Noted (events.Commit w made.number made) c.self.view_is
    (λ refusal bad. scan_refused p w made scanned bad.1) (made.number, made, refl) c.in-Ok.ensures.grown
    c.len-legal.ensures.legal

pub invariant_of-self-2 : goal.invariant_of-self-2
invariant_of-self-2 c =
    let p = c.self.inside.plant in let made = c.scan_into.result in
    subst (λ (x : Shown). Keeps x c.take_order.new.orders.items c.self.inside.sendings.items)
    (sym c.in-Ok.ensures.grown)
    (c.take_order.ensures.follow p.plant made.number made p.history c.self.invariant.0, c.self.invariant.1)

pub unreachable-requires : goal.unreachable-requires
unreachable-requires c =
    let p = c.self.inside.plant in let orders = c.self.inside.orders.items in let w = c.args.worker in
    c.in-Err.ensures.stranger (has_scan p orders w c.in-Some.work c.scan_into.result c.self.invariant.0
    (sym c.take_order.ensures.order ∙ c.in-Some.is) c.scan_into.ensures.number c.scan_into.ensures.snapshot)

pub unreachable-unreachable : goal.unreachable-unreachable
unreachable-unreachable c = c.unreachable.result
