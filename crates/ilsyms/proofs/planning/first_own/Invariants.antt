use Rattle.std.proofs.Common.{◌≡◌, take, false}
use Rattle.std.specs.List.{list_any}
use Rattle.ilsyms.specs.PlanningSteps.{is_of_instance}
use Rattle.ilsyms.proofs.planning.first_own.Given as goal

abbrev pub invariant-loop-number : goal.invariant-loop-number
invariant-loop-number l = list_any (λ s. is_of_instance s.variable) (take l.number l.fn.slots) ≡ false
