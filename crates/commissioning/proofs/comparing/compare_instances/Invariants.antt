use Rattle.std.specs.Io.KnownBytes.{Appends}
use Rattle.commissioning.specs.Differences.{instance_difference, line_of, lines_below}
use Rattle.commissioning.proofs.comparing.compare_instances.Given as goal

-- the lines so far were written
abbrev pub invariant-loop-number : goal.invariant-loop-number
invariant-loop-number g l =
    Appends (g.W.Write.contents l.initial.to) (g.W.Write.contents l.to)
    (lines_below (λ instance. line_of
    (instance_difference l.survey l.declared.plan.now l.declared.bus l.address instance)) l.number)
