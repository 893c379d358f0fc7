use Rattle.ilplan.specs.Plans.{all_lines}
use Rattle.ilplan.specs.UsageSteps.{AreFound}
use Rattle.ilplan.proofs.usage.add_callees.Given as goal

abbrev pub invariant-loop-number : goal.invariant-loop-number
invariant-loop-number l = AreFound (all_lines l.instances) l.functions l.number l.used
