use Rattle.std.proofs.Common.{take}
use Rattle.std.specs.Prelude.{flat_map}
use Rattle.ilsource.specs.Uses.{uses_in}
use Rattle.ilplan.specs.Functions.{invokes}
use Rattle.ilplan.specs.UsageSteps.{AreAdded}
use Rattle.ilplan.proofs.usage.add_lines.Given as goal

abbrev pub invariant-loop-line : goal.invariant-loop-line
invariant-loop-line l =
    AreAdded l.below (invokes (flat_map uses_in (take l.line-index l.lines))) l.initial.used l.used
