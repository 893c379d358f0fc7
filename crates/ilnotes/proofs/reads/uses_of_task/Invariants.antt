use Rattle.std.proofs.Common.{◌≡◌, flat_map, take}
use Rattle.ilsource.specs.Uses.{uses_in}
use Rattle.ilplan.specs.Plans.{all_lines}
use Rattle.ilnotes.proofs.reads.uses_of_task.Given as goal

abbrev pub invariant-loop-instance : goal.invariant-loop-instance
invariant-loop-instance l = l.uses.items ≡ flat_map uses_in (all_lines (take l.instance-index l.task.instances))
