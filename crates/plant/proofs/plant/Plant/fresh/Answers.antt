use Rattle.std.proofs.Common.{arith, ◌≡◌, ◌≤◌, ℕ, List, [], length, replicate, false, sym, subst, ap, ◌∙◌, rules}
use Rattle.ilplan.specs.Plans.{Planned, IsLawful}
use Rattle.limits.specs.Limits.{most_buses, most_tasks}
use Rattle.readytasks.specs.declared.setup.TaskSetup.{TaskSetup}
use Rattle.readytasks.specs.TaskSets.{AreSetups}
use Rattle.plantbuses.specs.KeptSteps.{AreFresh}
use Rattle.plantbuses.specs.OutputSteps.{planned, OutputsFollow}
use Rattle.plant.specs.IndexSteps.{InputsFollow}
use Rattle.plant.specs.KeptSteps.{CountsFollow}
use Rattle.plant.specs.Shown.{plant_of}
use Rattle.plant.proofs.Starting.{first_owes, kept_says}
use Rattle.plant.proofs.plant.Plant.fresh.Goals as goal

pub new-requires-clause-few : goal.new-requires-clause-few
new-requires-clause-few c =
    let setup = c.args.setup in
    let lawful = subst IsLawful c.plan.ensures.value c.buses-buses.ensures.lawful in
    let setups = c.in_ok-setups.ensures.setups (plant_of setup c.args.workers) (sym c.plan-2.ensures.value) in
    let few = lawful.most_tasks in let count = setups.count in
    subst (λ (l : List TaskSetup). length l ≤ most_tasks) (sym c.deref.ensures.value) (omega (arith, count, few))

pub owed_levels-requires : goal.owed_levels-requires
owed_levels-requires c =
    let setup = c.args.setup in let plan = setup.plan in
    let buses : c.buses-buses.result ≡ plan.buses = c.buses-buses.ensures.value ∙ ap (λ (p : Planned). p.buses)
    c.plan.ensures.value in
    let located = subst (λ (x : Planned). OutputsFollow (planned x) c.in_ok-outputs.outputs.items)
    c.plan-6.ensures.value c.in_ok-outputs.ensures in
    let fresh = subst (λ (n : ℕ). AreFresh n c.in_ok-states.states.items) buses c.in_ok-states.ensures in
    let many : length c.in_ok-outputs.outputs.items ≡ plan.buses = located.0 in
    let states : length c.in_ok-states.states.items ≡ plan.buses = fresh.0 in
    rw (c.deref-2.ensures.value, c.deref-3.ensures.value) (record {
      count = many ∙ sym states;
      outputs = λ b lt. (located.1 b (omega arith)).0;
      levels = λ b lt. (fresh.1 (plant_of setup c.args.workers) b (omega arith)).addresses;
    })

pub invariant_of-result : goal.invariant_of-result
invariant_of-result c =
    let setup = c.args.setup in let plan = setup.plan in
    let lawful = subst IsLawful c.plan.ensures.value c.buses-buses.ensures.lawful in
    let buses : c.buses-buses.result ≡ plan.buses = c.buses-buses.ensures.value ∙ ap (λ (p : Planned). p.buses)
    c.plan.ensures.value in
    let back : c.in_ok-bus_places.bus_places.items ≡ replicate plan.buses false = search rules in
    let counted = subst (λ (x : Planned). CountsFollow x.globals x.sources [] c.in_ok-counts.counts.items)
    c.plan-3.ensures.value c.in_ok-counts.ensures in
    let untaken : c.in_ok-takes.takes.items ≡ replicate (length plan.tasks) 0 = search rules in
    let up : c.from-2.result ≡ plan.buses = c.from-2.ensures ∙ buses in
    let few : plan.buses ≤ most_buses = lawful.wiring.buses.last in
    let located = subst (λ (x : Planned). OutputsFollow (planned x) c.in_ok-outputs.outputs.items)
    c.plan-6.ensures.value c.in_ok-outputs.ensures in
    let fresh = subst (λ (n : ℕ). AreFresh n c.in_ok-states.states.items) buses c.in_ok-states.ensures in
    let heard = subst (λ (x : Planned). InputsFollow x c.in_ok-inputs.inputs.items) c.plan-5.ensures.value
    c.in_ok-inputs.ensures in
    let owes = first_owes setup c.args.workers c.deref-2.result.now c.deref-3.result.now c.in_ok-image.image
    c.in_ok-owed.owed.items
    (subst (OutputsFollow (planned plan)) (sym c.deref-2.ensures.value) located)
    (subst (AreFresh plan.buses) (sym c.deref-3.ensures.value) fresh) c.in_ok-image.ensures c.in_ok-owed.ensures in
    let follows = c.in_ok-tasks.ensures.follows (plant_of setup c.args.workers)
    (subst (AreSetups (plant_of setup c.args.workers)) (sym c.deref.ensures.value)
    (c.in_ok-setups.ensures.setups (plant_of setup c.args.workers) (sym c.plan-2.ensures.value))) in
    kept_says setup c.args.workers c.args.limit _ _ _ _ _ _ _ _ _ _ _ _ c.requires.workers c.requires.limit few
    c.new-2.ensures back
    follows c.in_ok-image.ensures counted untaken c.in_ok-scans.ensures fresh heard located owes up
