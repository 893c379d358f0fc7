use Rattle.std.proofs.Common.{◌∙◌, ap, map, sym, subst}
use Rattle.ilplan.specs.declared.global.Global.{Global as GlobalVariable}
use Rattle.ilplan.specs.Plans.{Planned, IsLawful}
use Rattle.plant.specs.OpeningSteps.{AreLawfulTasks, global_types}
use Rattle.plant.proofs.FirstImages.{is_image}
use Rattle.plant.proofs.opening.first_image.Goals as goal

pub new-requires : goal.new-requires
new-requires c =
    is_image c.args.setup.now _ _ _ (subst IsLawful c.plan-3.ensures.value c.buses-lawful.ensures.lawful)
    (c.in_ok-types.ensures ∙ ap global_types c.plan.ensures.value)
    (c.in_ok-values.ensures ∙ ap (λ (p : Planned). map (λ (g : GlobalVariable). g.initial) p.globals)
    c.plan-2.ensures.value)
    (subst (AreLawfulTasks c.args.setup.now) (sym c.deref.ensures.value) c.in_ok-tasks.ensures.lawful)
