use Rattle.std.proofs.Common.{◌≡◌, false, None, Some, sym, subst}
use Rattle.std.specs.Prelude.{slice_get}
use Rattle.gearcmd.specs.FrameLists.{FrameList, IsLegal}
use Rattle.plantevents.specs.Histories.{hand}
use Rattle.plantevents.specs.Waiting.{handouts}
use Rattle.plantevents.specs.Legal.{IsUp, IsHand}
use Rattle.plantbuses.specs.HandingSteps.{transaction_by, handout_of}
use Rattle.plant.specs.Shown.{Shown, is_full, plant_of}
use Rattle.plant.proofs.Handing.{hand_says}
use Rattle.plant.proofs.plant.Plant.hand.Goals as goal

pub tries-tries-requires : goal.tries-tries-requires
tries-tries-requires c = c.in_ok-next.ensures.up.known

pub invariant_of-self : goal.invariant_of-self
invariant_of-self c =
    let p = c.self.inside in let says = c.self.invariant in let plant = plant_of p.setup p.workers in
    let h = p.history.items in let b = c.args.bus in let next = c.in_ok-next.next in
    let t = transaction_by next.class next.origin in
    let up = subst (λ (s : Shown). IsUp s.plant s.history b) (sym c.self.view_is) c.in_ok-next.ensures.up in
    let idle = subst (λ (s : Shown). hand b s.history ≡ None) (sym c.self.view_is) c.in_ok-next.ensures.idle in
    let room = subst (λ (s : Shown). is_full s ≡ false) (sym c.self.view_is) c.in_ok-next.ensures.room in
    let first = subst (λ (s : Shown). slice_get (handouts s.plant b s.history) 0 ≡ Some (handout_of next))
    (sym c.self.view_is) c.in_ok-next.ensures.first in
    let may : IsHand plant h b next.origin t = record {
      up = up;
      idle = idle;
      first = first;
      legal =
          subst (λ (f : FrameList). IsLegal f.frames f.first_priority) c.transaction_of.ensures.value
          c.transaction_of.ensures.legal;
    } in
    rw (c.push.ensures, c.origin.ensures, c.transaction_of.ensures.value) (hand_says _ _ b next.origin t _ _ says may
    room
    (c.other_events_leave_tasks.ensures.hand plant b next.origin t h p.tasks says.each_task)
    (c.note_hand.ensures plant h says.each_bus says.place)
    (c.note_handed.ensures plant t h first says.each_owed))
