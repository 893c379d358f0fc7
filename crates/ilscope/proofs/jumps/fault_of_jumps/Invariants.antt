use Rattle.ildeclared.specs.Faults.{IsNextOf}
use Rattle.ilscope.specs.JumpSteps.{IsFaultBefore}
use Rattle.ilscope.proofs.jumps.fault_of_jumps.Given as goal

abbrev pub invariant-loop-number : goal.invariant-loop-number
invariant-loop-number l = IsNextOf l.after (IsFaultBefore l.scope.tree.text l.labels l.lines l.number) l.least
