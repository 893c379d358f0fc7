use Rattle.std.specs.Io.KnownBytes.{Appends}
use Rattle.commandfiles.specs.Reports.{first_lines, task_line}
use Rattle.commandfiles.proofs.report.tasks.Given as goal

abbrev pub invariant-loop-task : goal.invariant-loop-task
invariant-loop-task g l =
    Appends (g.W.Write.contents l.fn.out) (g.W.Write.contents l.out) (first_lines (task_line l.setup) l.task)
