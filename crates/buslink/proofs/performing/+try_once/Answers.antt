use Rattle.std.proofs.Common.{◌≡◌, ◌⊎◌, ◌-◌, inl, inr, length, take, drop, refl}
use Rattle.buslink.specs.Marks.{IsBroken}
use Rattle.buslink.proofs.Trying.{one_left, once_last, once_more, not_true}
use Rattle.buslink.proofs.performing.+try_once.Goals as goal
use Rattle.buslink.proofs.performing.+try_once.Goals.{then-is_broken-via-then-is_broken}
use Rattle.buslink.proofs.performing.+try_once.Goals.{then-is_broken-via-else-is_broken+then-is_empty}

pub returns-then-is_broken : goal.returns-then-is_broken
returns-then-is_broken g t c =
    let ends : IsBroken c.send-mark.result ⊎ (length c.args.frames.now ≡ 1) =
    elim c.then-is_broken.branch as (λ _. IsBroken c.send-mark.result ⊎ (length c.args.frames.now ≡ 1)) [
      | then-is_broken-via-then-is_broken w ↦ inl (w.if-is_broken.ensures.0 refl)
      | then-is_broken-via-else-is_broken+then-is_empty w ↦ inr
          (one_left c.args.frames.now c.requires.some w.if-is_empty.ensures)
    ] in
    once_last c.args.frames.now c.index-frames-0.result c.args.priority c.args.marks.now.items c.push.new.self.items
    (g.B.Bus.log c.args.bus.now) (g.B.Bus.log c.send-mark.new.bus) c.send-mark.result c.send-mark.ensures.reply
    c.requires.some c.index-frames-0.is c.send-mark.ensures.marked c.send-mark.ensures.bus c.push.ensures.items ends

pub returns : goal.returns
returns g t c =
    once_more c.args.frames.now
    (take (length c.args.frames.now - 1)
    (drop 1 c.args.frames.now)) c.index-frames-0.result c.args.priority c.args.marks.now.items c.push.new.self.items c.try_once.new.marks.items
    (g.B.Bus.log c.args.bus.now) (g.B.Bus.log c.send-mark.new.bus)
    (g.B.Bus.log c.try_once.new.bus) c.send-mark.result c.try_once.result c.send-mark.ensures.reply
    c.requires.some c.index-frames-0.is refl c.send-mark.ensures.marked c.send-mark.ensures.bus c.push.ensures.items
    (λ broken. not_true (c.if-is_broken.ensures.1 broken)) c.try_once.ensures
