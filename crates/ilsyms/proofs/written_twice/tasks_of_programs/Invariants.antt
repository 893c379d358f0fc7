use Rattle.std.proofs.Common.{◌≡◌, length}
use Rattle.ilscope.specs.Declarations.{declared_programs}
use Rattle.ilsyms.specs.TaskSetSteps.{AreSetsOf}
use Rattle.ilsyms.specs.WrittenTwiceSteps.{HasInstance}
use Rattle.ilsyms.proofs.written_twice.tasks_of_programs.Given as goal

abbrev pub invariant-loop-number : goal.invariant-loop-number
invariant-loop-number l =
    record {
      count : length l.sets.items ≡ length (declared_programs l.fn.scope.tree);
      sets : AreSetsOf (HasInstance l.fn.tasks l.number) l.sets.items;
    }
