use Rattle.std.proofs.Common.{◌≡◌, length}
use Rattle.ilscope.specs.Configured.{globals_of}
use Rattle.ilsyms.specs.TaskSetSteps.{AreSetsOf}
use Rattle.ilsyms.specs.WrittenTwiceSteps.{StoresBefore}
use Rattle.ilsyms.proofs.written_twice.tasks_of_globals.Given as goal

abbrev pub invariant-loop-number : goal.invariant-loop-number
invariant-loop-number l =
    record {
      count : length l.sets.items ≡ length (globals_of l.fn.scope.tree);
      sets : AreSetsOf (StoresBefore l.fn.scope.tree l.fn.tasks l.number) l.sets.items;
    }
