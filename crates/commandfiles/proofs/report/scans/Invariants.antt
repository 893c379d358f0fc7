use Rattle.std.specs.Io.KnownBytes.{Appends}
use Rattle.commandfiles.specs.Reports.{first_texts, scan_lines}
use Rattle.commandfiles.proofs.report.scans.Given as goal

abbrev pub invariant-loop-number : goal.invariant-loop-number
invariant-loop-number g l =
    Appends (g.W.Write.contents l.fn.out) (g.W.Write.contents l.out) (first_texts (scan_lines l.made) l.number)
