use Rattle.std.proofs.Common.{◌≡◌, ◌+◌, take}
use Rattle.limits.specs.Limits.{most_blocks}
use Rattle.ilsyms.specs.TaskSteps.{instances_of}
use Rattle.ilsyms.specs.Variables.{blocks_of}
use Rattle.ilsyms.proofs.blocks.blocks_of.Given as goal

abbrev pub invariant-loop-instance : goal.invariant-loop-instance
invariant-loop-instance l =
    l.blocks.items
    ≡ take (most_blocks + 1) (blocks_of (take l.instance-index (instances_of l.fn.scope.tree l.fn.instances)))
