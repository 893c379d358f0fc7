use Rattle.std.proofs.Common.{◌≡◌, take, map}
use Rattle.livekeep.specs.KeptPlans.{global_first}
use Rattle.livekeep.proofs.first_values.globals_first.Given as goal

abbrev pub invariant-loop-global : goal.invariant-loop-global
invariant-loop-global l =
    l.values.items ≡ map (global_first l.plan.text l.kept.values) (take l.global l.plan.globals)
