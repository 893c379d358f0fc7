use Rattle.std.proofs.Common.{take}
use Rattle.std.specs.Prelude.{flat_map}
use Rattle.ilsource.specs.Uses.{uses_in}
use Rattle.ilplan.specs.StoreSteps.{Adds}
use Rattle.ilplan.proofs.stored.add_lines.Given as goal

abbrev pub invariant-loop-line : goal.invariant-loop-line
invariant-loop-line l = Adds (flat_map uses_in (take l.line-index l.lines)) l.initial.stored l.stored
