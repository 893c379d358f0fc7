use Rattle.std.proofs.Common.{◌∷◌, refl, sym, subst, arith}
use Rattle.gearcmd.specs.FrameLists.{FrameList}
use Rattle.plantevents.specs.declared.event.Event.TheVariants as events
use Rattle.plant.specs.Refusals.{hand_cases}
use Rattle.plant.specs.Shown.{Shown}
use Rattle.plantscript.specs.declared.step.Step.TheVariants as steps
use Rattle.plantscript.specs.declared.step.StepReply.TheVariants.{Handed}
use Rattle.plantscript.specs.DeskSteps.{SendingsFollow}
use Rattle.plantscript.proofs.Accepting.{none_answered}
use Rattle.plantscript.proofs.Desks.{Keeps, copied}
use Rattle.plantscript.proofs.Serving.{accepted_at, refused_at}
use Rattle.plantscript.proofs.stepped_plant.SteppedPlant.hand.Goals as goal

pub note_sending-requires : goal.note_sending-requires
note_sending-requires c =
    let known = c.in-Ok.ensures.next.up.known in let long = c.self.invariant.1.0 in omega arith

pub returns : goal.returns
returns c =
    let p = c.self.inside.plant in let b = c.args.bus in
    accepted_at p _ c.hand.new.self (steps.Hand b) (Handed c.in-Ok.handed.number c.in-Ok.handed.origin c.in-Ok.handed.transaction)
    (events.Hand b c.in-Ok.handed.origin c.in-Ok.handed.transaction) c.self.view_is
    (none_answered (hand_cases p b) c.in-Ok.ensures.refused) (c.in-Ok.ensures.number, refl) c.in-Ok.ensures.grown
    c.len-legal.ensures.legal

pub returns-in-Err : goal.returns-in-Err
returns-in-Err c =
    refused_at c.self.inside.plant _ c.hand.new.self (steps.Hand c.args.bus) c.in-Err.refusal c.self.view_is
    c.in-Err.ensures.refused c.in-Err.ensures.err

pub invariant_of-self : goal.invariant_of-self
invariant_of-self c =
    subst (λ (x : Shown). Keeps x c.self.inside.orders.items c.self.inside.sendings.items)
    (sym c.in-Err.ensures.err) c.self.invariant

pub invariant_of-self-2 : goal.invariant_of-self-2
invariant_of-self-2 c =
    let p = c.self.inside.plant in let b = c.args.bus in let handed = c.in-Ok.handed in
    let same = copied c.clone.result c.unwrap.result handed.transaction c.unwrap.ensures c.clone.ensures.cases in
    let noted = c.note_sending.ensures p.plant handed.origin p.history c.self.invariant.1 c.in-Ok.ensures.number in
    subst (λ (x : Shown). Keeps x c.self.inside.orders.items c.note_sending.new.sendings.items)
    (sym c.in-Ok.ensures.grown) (
      c.self.invariant.0,
      subst (λ (t : FrameList). SendingsFollow p.plant (events.Hand b handed.origin t ∷ p.history)
          c.note_sending.new.sendings.items) same noted,
    )
