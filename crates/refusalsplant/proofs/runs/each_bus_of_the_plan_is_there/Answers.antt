use Rattle.std.proofs.Common.{◌≡◌, ◌≢◌, ℕ, Result, Ok, Err, IfErr, lit≤}
use Rattle.plant.specs.declared.open_fault.OpenFault.TheVariants.{BadCount, Limit, Memory}
use Rattle.plantplay.specs.Installations.{IsStartFault}
use Rattle.plant.specs.declared.start_fault.StartFault.{StartFault}
use Rattle.plant.specs.declared.start_fault.StartFault.TheVariants as faults
use Rattle.refusalsplant.proofs.runs.each_bus_of_the_plan_is_there.Goals as goal

no_bad_count : {X : Type 0} (buses : ℕ) (given : Result X StartFault) → IfErr given (IsStartFault buses 2 1000)
    → IfErr given (λ fault. fault ≢ faults.Plant BadCount)
no_bad_count buses (Ok left) fault = tt
no_bad_count buses (Err faults.Memory) fault = λ is. cc
no_bad_count buses (Err (faults.Plant BadCount)) fault = absurd (fault (lit≤ tt, lit≤ tt))
no_bad_count buses (Err (faults.Plant Limit)) fault = λ is. cc
no_bad_count buses (Err (faults.Plant Memory)) fault = λ is. cc

pub returns : goal.returns
returns g c = no_bad_count c.args.setup.plan.buses c.run.result c.run.ensures.fault
