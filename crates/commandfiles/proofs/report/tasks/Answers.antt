use Rattle.textanswers.specs.Printed.{printed_task}
use Rattle.commandfiles.specs.Reports.{task_line}
use Rattle.commandfiles.proofs.ReportedLines.{one_line_more, task_is}
use Rattle.commandfiles.proofs.report.tasks.Goals as goal

pub loop-task-preserved : goal.loop-task-preserved
loop-task-preserved g c =
    let line = c.task_line in
    let shown = line.result in
    let before = g.W.Write.contents c.args.out.now in
    let so_far = g.W.Write.contents c.loop-task.out in
    let text = printed_task shown.name.now shown.words shown.bound in
    let said = line.ensures in
    let is = task_is _ _ shown.name.now shown.words shown.bound said.name said.words said.bound in
    one_line_more before so_far (g.W.Write.contents c.writeln.new.self) (task_line c.args.setup.now) c.loop-task.task
    text c.loop-task.invariant c.in_ok-writeln.ensures.bytes is
