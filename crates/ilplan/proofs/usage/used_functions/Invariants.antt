use Rattle.std.proofs.Common.{take, false, length, replicate}
use Rattle.ilplan.specs.Functions.{calls}
use Rattle.ilplan.specs.Plans.{all_lines}
use Rattle.ilplan.specs.UsageSteps.{AreAdded}
use Rattle.ilplan.proofs.usage.used_functions.Given as goal

abbrev pub invariant-loop-instance : goal.invariant-loop-instance
invariant-loop-instance l =
    AreAdded l.below (calls (all_lines (take l.instance-index l.instances))) (replicate (length l.functions) false)
    l.used.items
