use Rattle.std.proofs.Common.{◌∙◌, arith, ap, subst, sym}
use Rattle.std.specs.Prelude.{slice_index_or}
use Rattle.ilplan.specs.Plans.{IsLawful}
use Rattle.plantevents.specs.Plants.{activator}
use Rattle.plant.specs.Shown.{plant_of}
use Rattle.plant.specs.TakingSteps.{trigger_place}
use Rattle.plant.proofs.Indexed.{kept_for, trigger_bus}
use Rattle.plant.proofs.Pending.{pending_small}
use Rattle.plant.proofs.plant.Plant.overrides_for.Goals as goal

pub index-requires : goal.index-requires
index-requires c =
    let p = c.self.inside in let plant = plant_of p.setup p.workers in
    let lt = trigger_bus plant c.args.task c.in-Some.bus c.in-Some.number
    (subst IsLawful c.plan-plan.ensures.value c.buses-lawful.ensures.lawful)
    (sym (c.trigger_place.ensures.value
    ∙ ap trigger_place (c.trigger_of.ensures.value plant (sym c.plan-plan.ensures.value))) ∙ c.in-Some.is) in
    let many = c.self.invariant.each_input.0 in
    omega (arith, many, lt, c.from.ensures, c.self.inside.inputs.ok)

pub overrides-requires-clause-inputs : goal.overrides-requires-clause-inputs
overrides-requires-clause-inputs c =
    let p = c.self.inside in let plant = plant_of p.setup p.workers in
    let lt = trigger_bus plant c.args.task c.in-Some.bus c.in-Some.number
    (subst IsLawful c.plan-plan.ensures.value c.buses-lawful.ensures.lawful)
    (sym (c.trigger_place.ensures.value
    ∙ ap trigger_place (c.trigger_of.ensures.value plant (sym c.plan-plan.ensures.value))) ∙ c.in-Some.is) in
    rw (c.numbers-inputs.ensures, c.plan-plan.ensures.value) (kept_for p.setup.plan p.inputs.items c.in-Some.bus
    c.index.result.now c.self.invariant.each_input lt
    (c.index.ensures ∙ ap (λ n. slice_index_or p.inputs.items n c.index.result.now) c.from.ensures))

pub overrides-requires-clause-small : goal.overrides-requires-clause-small
overrides-requires-clause-small c =
    let p = c.self.inside in let plant = plant_of p.setup p.workers in let t = c.args.task in
    pending_small (activator plant t) t p.history.items c.in-Some-first_pending.event (
      0,
      sym (c.first_pending.ensures.value plant p.history.items c.self.invariant.each_task) ∙
          c.in-Some-first_pending.is,
    )
