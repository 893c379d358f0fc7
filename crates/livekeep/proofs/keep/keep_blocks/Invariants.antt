use Rattle.std.proofs.Common.{◌≡◌, ◌++◌, drop}
use Rattle.livekeep.specs.KeptStates.{instance_entries}
use Rattle.livekeep.proofs.keep.keep_blocks.Given as goal

-- what is kept so far, and what is kept of the instances that are left
abbrev pub invariant-loop-i : goal.invariant-loop-i
invariant-loop-i l =
    l.kept.items ++ instance_entries l.text (drop l.i l.task.blocks) (drop l.i l.states)
    ≡ l.fn.kept.items ++ instance_entries l.text l.task.blocks l.states
