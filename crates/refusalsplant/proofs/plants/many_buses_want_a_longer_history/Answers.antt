use Rattle.std.proofs.Common.{◌≡◌, ℕ, Result, Ok, Err, IfErr, OnOk, refl, lit<, lit≤, arith, subst}
use Rattle.plant.specs.declared.open_fault.OpenFault.{OpenFault}
use Rattle.plant.specs.declared.open_fault.OpenFault.TheVariants.{BadCount, Limit, Memory}
use Rattle.plant.specs.Shown.{IsOpenFault, IsRoomy}
use Rattle.refusalsplant.proofs.plants.many_buses_want_a_longer_history.Goals as goal

too_short : (buses : ℕ) → buses ≡ 17 → ¬ IsRoomy buses 100
too_short buses many roomy = let long = roomy (omega (arith, many)) in omega (arith, long)

only_limit : {P : Type 0} (buses : ℕ) → buses ≡ 17 → (given : Result P OpenFault) → OnOk given (IsRoomy buses 100)
    → IfErr given (IsOpenFault buses 2 100) → given ≡ Err Limit
only_limit buses many (Ok plant) roomy fault = absurd (too_short buses many roomy)
only_limit buses many (Err BadCount) roomy fault = absurd (fault (lit≤ tt, lit≤ tt))
only_limit buses many (Err Limit) roomy fault = refl
only_limit buses many (Err Memory) roomy fault = absurd (too_short buses many fault.1.1)

pub returns : goal.returns
returns c = only_limit c.args.setup.plan.buses c.requires c.open.result c.open.ensures.roomy c.open.ensures.fault
