use Rattle.std.proofs.Common.{◌≡◌, take}
use Rattle.std.specs.Prelude.{flat_map}
use Rattle.livekeep.specs.KeptPlans.{global_taken}
use Rattle.livekeep.proofs.left_out.globals_taken.Given as goal

abbrev pub invariant-loop-global : goal.invariant-loop-global
invariant-loop-global l =
    l.taken.items ≡ flat_map (global_taken l.plan.text l.kept.values) (take l.global l.plan.globals)
