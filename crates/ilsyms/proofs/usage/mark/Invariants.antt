use Rattle.std.proofs.Common.{take}
use Rattle.ilplan.specs.UsageSteps.{AreAdded}
use Rattle.ilsyms.specs.TaskSetSteps.{is_among}
use Rattle.ilsyms.proofs.usage.mark.Given as goal

abbrev pub invariant-loop-number : goal.invariant-loop-number
invariant-loop-number l =
    AreAdded l.below (λ number. is_among number (take l.number-index l.numbers)) l.initial.used l.used
