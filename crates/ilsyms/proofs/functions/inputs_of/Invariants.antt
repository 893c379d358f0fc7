use Rattle.std.proofs.Common.{◌≡◌, map, take}
use Rattle.ilsyms.specs.Resolved.{planned_input}
use Rattle.ilsyms.proofs.functions.inputs_of.Given as goal

abbrev pub invariant-loop-input : goal.invariant-loop-input
invariant-loop-input l = l.planned.items ≡ map planned_input (take l.input-index l.inputs)
