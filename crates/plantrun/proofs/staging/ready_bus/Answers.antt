use Rattle.plantrun.proofs.Unstaged.{ready_on_stage}
use Rattle.plantrun.proofs.staging.ready_bus.Goals as goal

pub new-requires : goal.new-requires
new-requires g c =
    ready_on_stage g.S.Scene.statements c.args.scenario.now c.args.bus c.in_ok-made.made c.arrive_all.new.self
    c.requires.scene c.in_ok-made.ensures c.arrive_all.ensures
