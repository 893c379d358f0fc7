use Rattle.plant.proofs.FirstHandouts.{first_chosen, class_chosen}
use Rattle.plant.proofs.plant.Plant.first_of.Goals as goal

pub returns-clause-first : goal.returns-clause-first
returns-clause-first c =
    first_chosen c.args.self.now.plant c.args.bus c.args.class c.args.self.now.history c.oldest-request.result
    c.first_owed-level.result c.first_of.result c.oldest-request.ensures.value c.first_owed-level.ensures.first
    c.first_of.ensures

pub returns-clause-class : goal.returns-clause-class
returns-clause-class c =
    class_chosen c.args.self.now.plant c.args.bus c.args.class c.args.self.now.history c.oldest-request.result
    c.first_owed-level.result c.first_of.result c.oldest-request.ensures.value c.first_owed-level.ensures.class
    c.first_of.ensures
