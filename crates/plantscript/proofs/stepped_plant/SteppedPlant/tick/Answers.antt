use Rattle.std.proofs.Common.{refl, sym, subst}
use Rattle.plantevents.specs.declared.event.Event.TheVariants as events
use Rattle.plant.specs.Refusals.{tick_cases}
use Rattle.plant.specs.Shown.{Shown}
use Rattle.plantscript.specs.declared.step.Step.TheVariants as steps
use Rattle.plantscript.specs.declared.step.StepReply.TheVariants.{Noted}
use Rattle.plantscript.proofs.Accepting.{none_answered}
use Rattle.plantscript.proofs.Desks.{Keeps}
use Rattle.plantscript.proofs.Serving.{accepted_at, refused_at}
use Rattle.plantscript.proofs.stepped_plant.SteppedPlant.tick.Goals as goal

pub returns : goal.returns
returns c =
    accepted_at c.self.inside.plant _ c.tick.new.self (steps.Tick c.args.moment) Noted (events.Tick c.args.moment) c.self.view_is
    (none_answered (tick_cases c.self.inside.plant c.args.moment) c.in-Ok.ensures.refused) refl c.in-Ok.ensures.ok c.len-legal.ensures.legal

pub returns-in-Err : goal.returns-in-Err
returns-in-Err c =
    refused_at c.self.inside.plant _ c.tick.new.self (steps.Tick c.args.moment) c.in-Err.refusal c.self.view_is
    c.in-Err.ensures.refused c.in-Err.ensures.err

pub invariant_of-self-2 : goal.invariant_of-self-2
invariant_of-self-2 c =
    subst (λ (x : Shown). Keeps x c.self.inside.orders.items c.self.inside.sendings.items)
    (sym c.in-Ok.ensures.ok) c.self.invariant

pub invariant_of-self : goal.invariant_of-self
invariant_of-self c =
    subst (λ (x : Shown). Keeps x c.self.inside.orders.items c.self.inside.sendings.items)
    (sym c.in-Err.ensures.err) c.self.invariant
