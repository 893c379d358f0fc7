use Rattle.commandfiles.proofs.ReportedLines.{one_request_more}
use Rattle.commandfiles.proofs.report.requests.Goals as goal

pub loop-request-preserved : goal.loop-request-preserved
loop-request-preserved g c =
    let before = g.W.Write.contents c.args.out.now in
    let so_far = g.W.Write.contents c.loop-request.out in
    let after = g.W.Write.contents c.writeln.new.self in
    one_request_more before so_far after c.task_kind-task.result c.requests-request-items.result.now
    c.loop-request.request-index c.request-item.result c.loop-request.invariant c.in_ok-writeln.ensures.bytes
    c.loop-request-test.true c.request-item.is
