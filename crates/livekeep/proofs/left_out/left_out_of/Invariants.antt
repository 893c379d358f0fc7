use Rattle.std.proofs.Common.{◌≡◌, take, not}
use Rattle.std.specs.Prelude.{filter}
use Rattle.livekeep.specs.KeptFiles.{KeptEntry, has_name}
use Rattle.livekeep.specs.KeptPlans.{taken}
use Rattle.livekeep.proofs.left_out.left_out_of.Given as goal

abbrev pub invariant-loop-value : goal.invariant-loop-value
invariant-loop-value l =
    l.left.items
    ≡ filter (λ (entry : KeptEntry). not (has_name (taken l.fn.kept.values l.fn.plan) entry.name))
    (take l.value-index l.fn.kept.values)
