use Rattle.std.proofs.Common.{take}
use Rattle.std.specs.Io.KnownBytes.{Appends}
use Rattle.commandfiles.specs.Reports.{request_lines}
use Rattle.commandfiles.proofs.report.requests.Given as goal

abbrev pub invariant-loop-request : goal.invariant-loop-request
invariant-loop-request g l =
    Appends (g.W.Write.contents l.fn.out) (g.W.Write.contents l.out)
    (request_lines l.task (take l.request-index l.request-items))
