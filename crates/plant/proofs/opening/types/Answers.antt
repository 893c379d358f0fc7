use Rattle.plant.proofs.FirstImages.{map_turn}
use Rattle.ilplan.specs.declared.global.Global.{Global as GlobalVariable}
use Rattle.plant.proofs.opening.types.Goals as goal

pub loop-global-preserved : goal.loop-global-preserved
loop-global-preserved c =
    map_turn (λ (g : GlobalVariable). g.value_type) c.args.plan.now.globals c.loop-global.global c.global.result.now
    c.loop-global.types.items c.push.new.self.items c.global.ensures.value c.in_ok-push.ensures.items
    c.loop-global.invariant
