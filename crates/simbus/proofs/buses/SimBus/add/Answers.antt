use Rattle.std.proofs.Common.{◌≡◌, ◌+◌, ◌-◌, ◌<◌, List, [], ◌∷◌, ◌++◌, Some, refl, sym, subst, ◌∙◌, ap, vec_len, arith}
use Rattle.std.specs.Prelude.{reverse, false}
use Rattle.buslink.specs.declared.marks.Sent.{Sent}
use Rattle.simbus.specs.Histories.{Setup}
use Rattle.simbus.specs.Kept.{setup_of, IsEquipmentOf}
use Rattle.simbus.specs.Simulated.{Simulated, due_mark}
use Rattle.simbus.proofs.Happened.{answered_more}
use Rattle.simbus.proofs.Keeping.{setup_stays, kept_sent, sent_more}
use Rattle.simbus.proofs.buses.SimBus.add.Goals as goal

pub invariant_of-self : goal.invariant_of-self
invariant_of-self c =
    let s : Sent = record { frame = c.args.frame.now; priority = c.args.priority; mark = c.args.mark } in
    let kept : IsEquipmentOf (setup_of c.self.inside.equipment)
    (s ∷ reverse c.self.inside.sent.items) c.see.new.self = c.see.ensures _ _ s refl refl c.self.invariant.kept in
    let items : c.push.new.self.items
    ≡ c.self.inside.sent.items ++ s ∷ [] = rw c.unwrap.ensures at c.push.ensures.items in
    let len : vec_len c.push.new.self ≡ vec_len c.self.inside.sent + 1 = rw c.unwrap.ensures at c.push.ensures.len in
    let spare : c.self.inside.spare ≡ c.args.self.now.log.spare = ap (λ (v : Simulated). v.log.spare) c.self.view_is in
    let some : 0 < c.args.self.now.log.spare = c.requires.spare in
    let more = sent_more c.self.inside.sent.items c.push.new.self.items s items in
    record {
      kept = kept_sent (setup_of c.self.inside.equipment)
          (s ∷ reverse c.self.inside.sent.items) c.push.new.self.items c.see.new.self kept more;
      sent_spare = omega (arith, c.push.ensures.capacity, c.self.invariant.sent_spare);
      heard_spare = omega (arith, c.self.invariant.heard_spare);
      room = c.self.invariant.room;
      heard = c.self.invariant.heard;
      answered = answered_more c.self.inside.equipment c.see.new.self c.self.inside.script.items
          (reverse c.self.inside.sent.items) (reverse c.push.new.self.items) s
          (setup_stays c.self.inside.equipment c.see.new.self s (reverse c.self.inside.sent.items) kept) more
          (subst (λ (v : Simulated). s.mark ≡ due_mark v.setup v.script (reverse v.log.sent) s.frame)
          (sym c.self.view_is) c.requires.due)
          c.self.invariant.answered;
    }

pub returns : goal.returns
returns c =
    let s : Sent = record { frame = c.args.frame.now; priority = c.args.priority; mark = c.args.mark } in
    let kept : IsEquipmentOf (setup_of c.self.inside.equipment)
    (s ∷ reverse c.self.inside.sent.items) c.see.new.self = c.see.ensures _ _ s refl refl c.self.invariant.kept in
    let items : c.push.new.self.items
    ≡ c.self.inside.sent.items ++ s ∷ [] = rw c.unwrap.ensures at c.push.ensures.items in
    let seen : Setup → List Sent → Simulated = λ setup sent. record {
      setup = setup;
      script = c.self.inside.script.items;
      waiting = c.self.inside.waiting.items;
      log = record {
        number = c.self.inside.number;
        arrivals = Some (record {
          come = reverse c.self.inside.met.items ++ c.self.inside.waiting.items;
          later = c.self.inside.later.items;
        });
        sent = sent;
        heard = c.self.inside.heard.items;
        spare = c.self.inside.spare - 1;
        failures = c.self.inside.failures;
        hears = c.self.inside.hears;
        heard_none = c.self.inside.heard_none;
        mends = 0;
        is_mended = false;
      };
    } in
    rw (← c.self.view_is)
    (ap (λ (x : Setup). seen x c.push.new.self.items)
    (setup_stays c.self.inside.equipment c.see.new.self s (reverse c.self.inside.sent.items) kept)
    ∙ ap (λ (y : List Sent). seen (setup_of c.self.inside.equipment) y) items)
