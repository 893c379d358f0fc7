use Rattle.std.specs.Io.KnownBytes.{Appends}
use Rattle.commandfiles.specs.Reports.{first_lines, variable_line}
use Rattle.commandfiles.proofs.report.variables.Given as goal

abbrev pub invariant-loop-slot : goal.invariant-loop-slot
invariant-loop-slot g l =
    Appends (g.W.Write.contents l.fn.out) (g.W.Write.contents l.out) (first_lines (variable_line l.made) l.slot)
