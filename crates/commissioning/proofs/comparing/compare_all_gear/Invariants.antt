use Rattle.std.specs.Io.KnownBytes.{Appends}
use Rattle.commissioning.specs.Differences.{gear_difference, line_of, lines_below}
use Rattle.commissioning.proofs.comparing.compare_all_gear.Given as goal

-- the lines so far were written
abbrev pub invariant-loop-number : goal.invariant-loop-number
invariant-loop-number g l =
    Appends (g.W.Write.contents l.initial.to) (g.W.Write.contents l.to)
    (lines_below (λ gear. line_of (gear_difference l.survey l.declared.plan.now l.declared.bus gear)) l.number)
