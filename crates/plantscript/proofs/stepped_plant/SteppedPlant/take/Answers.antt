use Rattle.std.proofs.Common.{ℕ, refl, sym, ap, subst, arith}
use Rattle.ilmachine.specs.Scans.{task_of}
use Rattle.plantevents.specs.declared.event.Event.TheVariants as events
use Rattle.plant.specs.Refusals.{take_cases}
use Rattle.plant.specs.Shown.{Shown}
use Rattle.plantscript.specs.declared.step.Step.TheVariants as steps
use Rattle.plantscript.specs.declared.step.StepReply.TheVariants.{Taken}
use Rattle.plantscript.proofs.Accepting.{none_answered}
use Rattle.plantscript.proofs.Desks.{Keeps}
use Rattle.plantscript.proofs.Serving.{accepted_at, not_taken_at}
use Rattle.plantscript.proofs.stepped_plant.SteppedPlant.take.Goals as goal

pub note_order-requires : goal.note_order-requires
note_order-requires c =
    let known = c.in-Ok.ensures.taken.known in let long = c.self.invariant.0.0 in omega arith

pub returns : goal.returns
returns c =
    let p = c.self.inside.plant in let w = c.args.worker in let work = c.in-Ok.order.work in
    accepted_at p _ c.take.new.self (steps.Take w) (Taken c.in-Ok.order.number c.in-Ok.order.task)
    (events.Take w c.in-Ok.order.task work.snapshot) c.self.view_is
    (none_answered (take_cases p w) c.in-Ok.ensures.refused)
    (c.in-Ok.ensures.number.0, (work.snapshot, refl)) c.in-Ok.ensures.grown c.len-legal.ensures.legal

pub invariant_of-self-2 : goal.invariant_of-self-2
invariant_of-self-2 c =
    let p = c.self.inside.plant in let work = c.in-Ok.order.work in
    subst (λ (x : Shown). Keeps x c.note_order.new.orders.items c.self.inside.sendings.items)
    (sym c.in-Ok.ensures.grown) (
      c.note_order.ensures p.plant c.in-Ok.order.task work.snapshot p.history c.self.invariant.0
          (ap (λ (n : ℕ). task_of n work.snapshot) c.in-Ok.ensures.number.1),
      c.self.invariant.1,
    )

pub returns-in-Err : goal.returns-in-Err
returns-in-Err c =
    not_taken_at c.self.inside.plant _ c.take.new.self c.args.worker c.take.result c.in-Err.error c.from.result
    c.self.view_is c.in-Err.is c.take.ensures.refused c.in-Err.ensures.err c.from.ensures

pub invariant_of-self : goal.invariant_of-self
invariant_of-self c =
    subst (λ (x : Shown). Keeps x c.self.inside.orders.items c.self.inside.sendings.items)
    (sym c.in-Err.ensures.err) c.self.invariant
