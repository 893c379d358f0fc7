use Rattle.std.proofs.Common.{take}
use Rattle.ildeclared.specs.Faults.{IsNextOf, OfCause, SomeOf}
use Rattle.ildeclared.specs.Kept.{kept_under}
use Rattle.ildeclared.specs.declared.fault.NameCause.TheVariants.{BadAddress}
use Rattle.std.specs.Prelude.{option_and_then, slice_get}
use Rattle.ilscope.specs.Faults.{IsNoTriggerOf}
use Rattle.ilscope.proofs.tasks.no_triggers.Given as goal

abbrev pub invariant-loop-task : goal.invariant-loop-task
invariant-loop-task l =
    IsNextOf l.after (OfCause BadAddress (λ place. SomeOf (IsNoTriggerOf
    (λ name. option_and_then (slice_get l.globals) (kept_under l.lower l.numbers name)) place)
    (take l.task-index l.tasks))) l.least
