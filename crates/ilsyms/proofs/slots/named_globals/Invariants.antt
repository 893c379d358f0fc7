use Rattle.std.proofs.Common.{◌≡◌, take, false, replicate, length}
use Rattle.ilscope.specs.Configured.{globals_of}
use Rattle.ilscope.specs.Declarations.{declared_programs}
use Rattle.ilsyms.specs.CountingSteps.{AreSeen}
use Rattle.ilsyms.specs.TaskSteps.{instances_of}
use Rattle.ilsyms.specs.SlotSteps.{AddsWhere}
use Rattle.ilsyms.specs.Variables.{is_named}
use Rattle.ilsyms.proofs.slots.named_globals.Given as goal

abbrev pub invariant-loop-instance : goal.invariant-loop-instance
invariant-loop-instance l =
    let tree = l.fn.scope.tree in
    let front = take l.instance-index (instances_of tree l.fn.instances) in
    record {
      named : AddsWhere (is_named tree front) (replicate (length (globals_of tree)) false) l.named.items;
      count : length l.seen.items ≡ length (declared_programs tree);
      seen : AreSeen tree front l.seen.items;
    }
