use Rattle.std.proofs.Common.{◌≡◌, drop}
use Rattle.buslink.specs.declared.marks.Reply.TheVariants.{Quiet}
use Rattle.simbus.specs.Kept.{replies_from, live_answer}
use Rattle.simbus.proofs.equipment.gears_reply.Given as goal

abbrev pub invariant-loop-live : goal.invariant-loop-live
invariant-loop-live l =
    replies_from (live_answer l.memory l.fields) l.reply (drop l.live-index l.gears)
    ≡ replies_from (live_answer l.memory l.fields) Quiet l.gears
