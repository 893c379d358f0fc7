use Rattle.std.proofs.Common.{length, sym, ap, subst, arith, List}
use Rattle.std.proofs.lemmas.List.{length-map}
use Rattle.ilblocks.proofs.Blocks.{as_long}
use Rattle.iltypes.specs.declared.value.IlType.{IlType}
use Rattle.ilplan.specs.declared.global.Global.{Global as GlobalVariable}
use Rattle.ilplan.specs.Plans.{IsLawful}
use Rattle.ilmachine.specs.Snapshots.{MayHave}
use Rattle.plantbuses.specs.HandingSteps.{IsOutput}
use Rattle.plantbuses.proofs.OwedAt.{value_is, output_below}
use Rattle.plant.specs.Shown.{Shown, plant_of}
use Rattle.plant.proofs.plant.Plant.level_of.Goals as goal

pub value-requires : goal.value-requires
value-requires c =
    let p = c.self.inside in let plant = plant_of p.setup p.workers in
    let is = subst (λ (s : Shown). IsOutput s.plant c.args.global) (sym c.self.view_is) c.requires in
    let below = output_below plant c.args.global is in
    let types = ap (λ l. length l.types) c.self.invariant.each_variable.laid in
    let long = as_long _ _ c.values-values.ensures.in_types in
    let count = length-map p.setup.plan.globals (λ (g : GlobalVariable). g.value_type) in omega arith

pub level_in-requires : goal.level_in-requires
level_in-requires c =
    let p = c.self.inside in let plant = plant_of p.setup p.workers in
    let is = subst (λ (s : Shown). IsOutput s.plant c.args.global) (sym c.self.view_is) c.requires in
    let lawful = subst IsLawful c.plan.ensures.value c.buses-lawful.ensures.lawful in
    let types = ap (λ l. l.types) c.self.invariant.each_variable.laid in
    value_is plant c.args.global c.value.result lawful is
    (subst (λ (ts : List IlType). MayHave ts c.args.global c.value.result) types c.value.ensures.in_type)
