use Rattle.std.specs.Io.KnownBytes.{Appends}
use Rattle.commissioning.specs.Differences.{group_difference, line_of, lines_below}
use Rattle.commissioning.proofs.comparing.compare_groups.Given as goal

-- the lines so far were written
abbrev pub invariant-loop-group : goal.invariant-loop-group
invariant-loop-group g l =
    Appends (g.W.Write.contents l.initial.to) (g.W.Write.contents l.to)
    (lines_below (λ group. line_of (group_difference l.survey l.declared.plan.now l.declared.bus group)) l.group)
