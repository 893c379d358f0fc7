use Rattle.std.proofs.Common.{◌≡◌, map, take}
use Rattle.ilmachine.specs.ImageSteps.{global_value}
use Rattle.ilmachine.proofs.task.global_values.Given as goal

abbrev pub invariant-loop-external : goal.invariant-loop-external
invariant-loop-external l = l.values.items ≡ map (global_value l.globals) (take l.external-index l.externals)
