use Rattle.std.proofs.Common.{take, replicate, false}
use Rattle.std.specs.List.{list_any}
use Rattle.ilplan.specs.UsageSteps.{AreAdded}
use Rattle.ilsyms.specs.FunctionSteps.{calls_at}
use Rattle.ilsyms.specs.TaskSetSteps.{is_among}
use Rattle.ilsyms.proofs.usage.called_functions.Given as goal

abbrev pub invariant-loop-instance : goal.invariant-loop-instance
invariant-loop-instance l =
    AreAdded l.count
    (λ number. list_any (λ i. is_among number (calls_at l.calls i.program)) (take l.instance-index l.instances))
    (replicate l.count false)
    l.called.items
