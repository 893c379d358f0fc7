use Rattle.std.proofs.Common.{◌∙◌, sym, true≢false}
use Rattle.plantdriving.specs.declared.halt.Halt.TheVariants.{Unwritten}
use Rattle.plantlock.specs.Answers.{IsAnswered}
use Rattle.plantlock.proofs.Refusing.{error_as}
use Rattle.plantturns.proofs.Rounds.{shows_taken}
use Rattle.plantturns.proofs.Scanning.{has_scanned, order_refused}
use Rattle.plantturns.proofs.scan_worker.scan_once.Goals as goal

pub unreachable-requires : goal.unreachable-requires
unreachable-requires g c =
    let order = c.in_ok-order.order in let made = c.scan_into-scan.ensures in
    true≢false (sym (c.in_default.ensures.open
    (shows_taken order.number c.args.worker order.task order.work.snapshot c.args.share.now c.take.new.share
    c.scan_into-scan.result c.in_ok-order.ensures.noted (made.number ∙ c.in_ok-order.ensures.number) made.snapshot)))

pub returns-in_err-order-clause-scans : goal.returns-in_err-order-clause-scans
unfolding IsAnswered
returns-in_err-order-clause-scans g c =
    order_refused g.J.LockStart.start c.args.worker c.args.share.now c.take.new.share _ c.in_err-order.field-0.0
    c.from_residual.result c.from_residual.ensures.1 c.in_err-order.ensures.answered c.in_err-order.ensures.err

pub returns-clause-scans : goal.returns-clause-scans
returns-clause-scans g c =
    let order = c.in_ok-order.order in
    has_scanned c.args.worker order.number order.task c.in-Ok.ensures.noted.0 order.work.snapshot
    c.scan_into-scan.result c.args.share.now c.take.new.share c.commit.new.share c.in_ok-order.ensures.noted
    c.in-Ok.ensures.noted.1 (c.scan_into-scan.ensures.number ∙ c.in_ok-order.ensures.number)

pub returns-in_err-tell_scan-clause-scans : goal.returns-in_err-tell_scan-clause-scans
returns-in_err-tell_scan-clause-scans g c =
    let order = c.in_ok-order.order in
    rw (error_as c.from_residual-in_err-tell_scan.result (Unwritten c.in_err-tell_scan.field-0.0)
    c.from_residual-in_err-tell_scan.ensures.1)
    (has_scanned c.args.worker order.number order.task c.in-Ok.ensures.noted.0 order.work.snapshot
    c.scan_into-scan.result c.args.share.now c.take.new.share c.commit.new.share c.in_ok-order.ensures.noted
    c.in-Ok.ensures.noted.1 (c.scan_into-scan.ensures.number ∙ c.in_ok-order.ensures.number))
