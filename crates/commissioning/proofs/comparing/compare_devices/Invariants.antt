use Rattle.std.specs.Io.KnownBytes.{Appends}
use Rattle.commissioning.specs.Differences.{device_lines, lines_below}
use Rattle.commissioning.proofs.comparing.compare_devices.Given as goal

-- the lines so far were written
abbrev pub invariant-loop-number : goal.invariant-loop-number
invariant-loop-number g l =
    Appends (g.W.Write.contents l.initial.to) (g.W.Write.contents l.to)
    (lines_below (device_lines l.survey l.declared.plan.now l.declared.bus) l.number)
