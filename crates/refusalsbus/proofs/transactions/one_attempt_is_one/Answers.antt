use Rattle.std.proofs.Common.{length}
use Rattle.refusalsbus.proofs.LostFrames.{lost_in_one_attempt}
use Rattle.refusalsbus.proofs.transactions.one_attempt_is_one.Goals as goal

pub returns-in-Some : goal.returns-in-Some
returns-in-Some c =
    let report = c.in-Some.ensures.report in
    absurd (lost_in_one_attempt (length c.args.transaction.now.frames) report.attempts report.legal report.spelled)
