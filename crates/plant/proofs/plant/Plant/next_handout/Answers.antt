use Rattle.plantevents.specs.Waiting.{handouts}
use Rattle.plant.proofs.FirstHandouts.{any_there}
use Rattle.plant.proofs.plant.Plant.next_handout.Goals as goal

pub returns-clause-none : goal.returns-clause-none
returns-clause-none c =
    any_there (handouts c.args.self.now.plant c.args.bus c.args.self.now.history) c.first_handout.result
    c.first_handout.ensures.first
