use Rattle.std.proofs.Common.{◌≡◌, ℕ, Result, Ok, Err, IfErr, refl, lit<, lit≤, arith}
use Rattle.plant.specs.declared.open_fault.OpenFault.{OpenFault}
use Rattle.plant.specs.declared.open_fault.OpenFault.TheVariants.{BadCount, Limit, Memory}
use Rattle.plant.specs.Shown.{IsLimit, IsOpenFault, IsRoomy}
use Rattle.refusalsplant.proofs.plants.sixteen_buses_have_a_short_history.Goals as goal

long_enough : (buses : ℕ) → buses ≡ 16 → IsRoomy buses 100
long_enough buses few many = absurd (omega (arith, few, many))

only_memory : {P : Type 0} (buses : ℕ) → buses ≡ 16 → (given : Result P OpenFault) → IfErr given (IsOpenFault buses 2 100)
    → IfErr given (λ fault. fault ≡ Memory)
only_memory buses few (Ok plant) fault = tt
only_memory buses few (Err BadCount) fault = absurd (fault (lit≤ tt, lit≤ tt))
only_memory buses few (Err Limit) fault = absurd (fault.1 ((lit≤ tt, lit≤ tt), long_enough buses few))
only_memory buses few (Err Memory) fault = refl

pub returns : goal.returns
returns c = only_memory c.args.setup.plan.buses c.requires c.open.result c.open.ensures.fault
