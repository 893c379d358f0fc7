use Rattle.std.proofs.Common.{take}
use Rattle.ildeclared.specs.Faults.{IsNextOf, OfCause, SomeOf}
use Rattle.ildeclared.specs.Kept.{kept_under}
use Rattle.ildeclared.specs.declared.fault.NameCause.TheVariants.{Unknown}
use Rattle.ilscope.specs.Faults.{IsUnknownTriggerOf}
use Rattle.ilscope.proofs.unknown.unknown_triggers.Given as goal

abbrev pub invariant-loop-task : goal.invariant-loop-task
invariant-loop-task l =
    IsNextOf l.after (OfCause Unknown (λ place. SomeOf (IsUnknownTriggerOf (kept_under l.lower l.globals) place)
    (take l.task-index l.tasks))) l.least
