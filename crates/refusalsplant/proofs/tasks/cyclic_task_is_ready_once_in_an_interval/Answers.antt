use Rattle.std.proofs.Common.{◌∙◌}
use Rattle.plantevents.specs.Histories.{moment}
use Rattle.plantevents.specs.Plants.{activator}
use Rattle.plantevents.specs.Readiness.{last_take, pending}
use Rattle.refusalsplant.proofs.TaskTurns.{not_due}
use Rattle.refusalsplant.proofs.tasks.cyclic_task_is_ready_once_in_an_interval.Goals as goal

pub returns : goal.returns
returns c =
    let a = activator c.args.plant.now.plant 0 in
    c.ready.ensures.value c.args.plant.now.plant c.args.plant.now.history c.requires.follows
    ∙ not_due a (moment c.args.plant.now.history) (last_take 0 c.args.plant.now.history) (pending a 0 c.args.plant.now.history) c.requires.cyclic c.requires.moment
    c.requires.taken
