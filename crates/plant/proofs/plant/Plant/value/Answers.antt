use Rattle.std.proofs.Common.{◌<◌, length, ap, sym, subst, arith}
use Rattle.std.proofs.lemmas.List.{length-map}
use Rattle.ilblocks.proofs.Blocks.{as_long}
use Rattle.ilplan.specs.declared.global.Global.{Global as GlobalVariable}
use Rattle.plant.specs.Shown.{Shown}
use Rattle.plant.proofs.plant.Plant.value.Goals as goal

pub value-requires : goal.value-requires
value-requires c =
    let within = subst (λ (p : Shown). c.args.global < length p.plant.plan.globals) (sym c.self.view_is) c.requires in
    let types = ap (λ l. length l.types) c.self.invariant.each_variable.laid in
    let long = as_long _ _ c.values-values.ensures.in_types in
    let count = length-map c.self.inside.setup.plan.globals (λ (g : GlobalVariable). g.value_type) in omega arith
