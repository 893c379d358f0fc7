use Rattle.std.proofs.Common.{◌≡◌, drop}
use Rattle.buslink.specs.declared.marks.Reply.TheVariants.{Quiet}
use Rattle.simbus.specs.Kept.{replies_from, live_instance_answer}
use Rattle.simbus.proofs.equipment.instances_reply.Given as goal

abbrev pub invariant-loop-live : goal.invariant-loop-live
invariant-loop-live l =
    replies_from (live_instance_answer l.fields) l.reply (drop l.live-index l.instances)
    ≡ replies_from (live_instance_answer l.fields) Quiet l.instances
