use Rattle.std.proofs.Common.{length, ap, ◌∙◌}
use Rattle.buslink.specs.Marks.{outcome_of}
use Rattle.refusalsbus.proofs.LostFrames.{one_lost}
use Rattle.refusalsbus.proofs.transactions.lost_last_frame_gives_up.Goals as goal

pub returns-in-Some : goal.returns-in-Some
returns-in-Some c =
    let report = c.in-Some.ensures.report in
    let last = one_lost (length c.args.transaction.now.frames) report.attempts report.legal report.spelled in
    c.outcome.ensures.value ∙ (report.outcome ∙ ap outcome_of last)
