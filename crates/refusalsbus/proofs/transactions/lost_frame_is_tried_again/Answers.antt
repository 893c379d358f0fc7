use Rattle.std.proofs.Common.{length}
use Rattle.refusalsbus.proofs.LostFrames.{lost_is_retried}
use Rattle.refusalsbus.proofs.transactions.lost_frame_is_tried_again.Goals as goal

pub returns-in-Some : goal.returns-in-Some
returns-in-Some c =
    let report = c.in-Some.ensures.report in
    absurd (lost_is_retried (length c.args.transaction.now.frames) report.attempts report.legal report.spelled)
