use Rattle.std.proofs.Common.{◌≡◌, ◌+◌, ◌<◌, List, [], ◌∷◌, ◌++◌, sym, ap, ◌∙◌, vec_len, arith}
use Rattle.std.specs.Prelude.{reverse}
use Rattle.std.proofs.lemmas.List.{append-nil}
use Rattle.buslink.specs.declared.arrivals.Arrival.{Arrival}
use Rattle.buslink.specs.declared.arrivals.Arrival.TheVariants.{Frame, Fault}
use Rattle.buslink.specs.BusLog.{frames_in}
use Rattle.simbus.specs.Simulated.{Simulated}
use Rattle.simbus.proofs.Happened.{heard_more}
use Rattle.simbus.proofs.buses.SimBusBus.hear.Goals as goal

pub invariant_of-self-in-Frame : goal.invariant_of-self-in-Frame
invariant_of-self-in-Frame c =
    let met = c.self.inside.met.items in let frame = c.in-Frame.frame in
    let items : c.push-in-Frame.new.self.items ≡ c.self.inside.heard.items ++ frame ∷ [] =
    rw c.unwrap.ensures at c.push-in-Frame.ensures.items in
    let len : vec_len c.push-in-Frame.new.self ≡ vec_len c.self.inside.heard + 1 =
    rw c.unwrap.ensures at c.push-in-Frame.ensures.len in
    let spare : c.self.inside.spare ≡ c.args.self.now.log.spare = ap (λ (v : Simulated). v.log.spare) c.self.view_is in
    let some : 0 < c.args.self.now.log.spare = c.requires in
    let all : c.push.new.self.items ≡ Frame frame ∷ met =
    c.push.ensures ∙ ap (λ (a : Arrival). a ∷ met) c.in-Frame.is in
    record {
      kept = c.self.invariant.kept;
      sent_spare = omega (arith, c.self.invariant.sent_spare);
      heard_spare = omega (arith, len, spare, some, c.push-in-Frame.ensures.capacity, c.self.invariant.heard_spare);
      room = omega (arith, c.pop_front-next.ensures.len, c.pop_front-next.ensures.capacity, c.self.invariant.room);
      heard = items
          ∙ (heard_more met (Frame frame) c.self.inside.heard.items c.self.invariant.heard
          ∙ ap (λ (xs : List Arrival). frames_in (reverse xs)) (sym all));
      answered = c.self.invariant.answered;
    }

pub invariant_of-self-in-Fault : goal.invariant_of-self-in-Fault
invariant_of-self-in-Fault c =
    let met = c.self.inside.met.items in
    let all : c.push.new.self.items ≡ Fault ∷ met =
    c.push.ensures ∙ ap (λ (a : Arrival). a ∷ met) c.in-Fault.is in
    record {
      kept = c.self.invariant.kept;
      sent_spare = c.self.invariant.sent_spare;
      heard_spare = c.self.invariant.heard_spare;
      room = omega (arith, c.pop_front-next.ensures.len, c.pop_front-next.ensures.capacity, c.self.invariant.room);
      heard = sym (append-nil c.self.inside.heard.items)
          ∙ (heard_more met Fault c.self.inside.heard.items c.self.invariant.heard
          ∙ ap (λ (xs : List Arrival). frames_in (reverse xs)) (sym all));
      answered = c.self.invariant.answered;
    }
