-- One bus more of a scenario, and why a run on its buses does not start.
use Rattle.std.proofs.Common.{◌≡◌, ◌∙◌, ap, ℕ, zero, suc, ◌+◌, List, [], ◌∷◌, ◌++◌, length, length-append}
use Rattle.std.proofs.Common.{◌≤◌, add-one, arith, refl}
use Rattle.wordlines.specs.declared.statements.Statement.{Statement}
use Rattle.simbus.specs.Simulated.{Simulated, all_arrived}
use Rattle.plantplay.specs.Installations.{bus_of}
use Rattle.workers.specs.Starts.{IsStartFault}
use Rattle.ilcompile.specs.Loaded.{Loaded}
use Rattle.plant.specs.declared.open_fault.OpenFault.{OpenFault}
use Rattle.plant.specs.declared.open_fault.OpenFault.TheVariants.{Memory, BadCount, Limit}
use Rattle.plant.specs.Shown.{IsOpenFault}
use Rattle.plantrun.specs.Runs.{buses_of}

pub one_bus_more : (scenario : List Statement) (bus number : ℕ) (before : List Simulated) (next : Simulated)
    → before ≡ buses_of scenario bus → next ≡ all_arrived (bus_of scenario number) → number ≡ bus
    → before ++ next ∷ [] ≡ buses_of scenario (bus + 1)
one_bus_more scenario bus number before next is made same = rw (add-one, is, made, same) refl

pub count_of : (scenario : List Statement) (buses : ℕ) → length (buses_of scenario buses) ≡ buses
count_of scenario zero = refl
count_of scenario (suc buses) =
    length-append (buses_of scenario buses) (all_arrived (bus_of scenario buses) ∷ [])
    ∙ (ap (λ k. k + 1) (count_of scenario buses) ∙ add-one buses)

-- as many as a scenario's buses
pub as_many : (scenario : List Statement) (buses count : ℕ) (items : List Simulated)
    → items ≡ buses_of scenario buses → count ≡ length items → count ≡ buses
as_many scenario buses count items are counted = counted ∙ (ap length are ∙ count_of scenario buses)

-- with a bus for each of the plan a run does not start for what the plant is not opened for
pub not_opened : (setup : Loaded) (workers buses limit : ℕ) (fault : OpenFault) → buses ≡ setup.plan.buses
    → IsStartFault setup workers buses limit fault → IsOpenFault setup.plan.buses workers limit fault
not_opened setup workers buses limit BadCount same is = λ count. is (count, same)
not_opened setup workers buses limit Limit same is = (is.0.0, is.1)
not_opened setup workers buses limit Memory same is = (is.0.0, is.1)

-- the buses that were made are those of the scenario that the plan has
pub buses_are : (setup : Loaded) (scenario : List Statement) (count : ℕ) (items : List Simulated)
    → items ≡ buses_of scenario count → count ≡ setup.plan.buses → items ≡ buses_of scenario setup.plan.buses
buses_are setup scenario count items made same = made ∙ ap (buses_of scenario) same

-- there is room for as many as come back
pub room_enough : (scenario : List Statement) (count made capacity : ℕ) (on left : List Simulated)
    → on ≡ buses_of scenario count → length left ≡ length on → made ≡ length left → count ≤ capacity → made ≤ capacity
room_enough scenario count made capacity on left is same counted room =
    let long : length on ≡ count = ap (λ (xs : List Simulated). length xs) is ∙ count_of scenario count in
    omega (arith, long, same, counted, room)
