use Rattle.std.proofs.Common.{◌≡◌, length, take}
use Rattle.ilscope.specs.Declarations.{declared_programs}
use Rattle.ilscope.specs.Uses.{uses_of}
use Rattle.ilsyms.specs.CountingSteps.{AreCounted, AreSeen}
use Rattle.ilsyms.specs.TaskSteps.{instances_of}
use Rattle.ilsyms.specs.Variables.{lines_of}
use Rattle.ilsyms.proofs.counting.Counted.of_programs.Given as goal

abbrev pub invariant-loop-instance : goal.invariant-loop-instance
invariant-loop-instance l =
    let tree = l.scope.tree in
    let front = take l.instance-index (instances_of tree l.instances) in
    record {
      counted : AreCounted (uses_of (lines_of front)) l.counted.constants l.counted.excess;
      count : length l.seen.items ≡ length (declared_programs tree);
      seen : AreSeen tree front l.seen.items;
    }
