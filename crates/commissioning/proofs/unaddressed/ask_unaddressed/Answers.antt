use Rattle.commissioning.proofs.Retrying.{answered, unanswered}
use Rattle.commissioning.proofs.unaddressed.ask_unaddressed.Goals as goal

pub returns-clause-asked : goal.returns-clause-asked
returns-clause-asked g c =
    answered c.try_query-last.result c.ending_of.result (g.B.Bus.log c.args.bus.now) (g.B.Bus.log c.room.new.self)
    (g.B.Bus.log c.try_query-last.new.bus) c.room.ensures.same c.try_query-last.ensures c.ending_of.ensures

pub returns-clause-fault : goal.returns-clause-fault
returns-clause-fault g c =
    unanswered c.try_query-last.result c.ending_of.result (g.B.Bus.log c.args.bus.now) (g.B.Bus.log c.room.new.self)
    (g.B.Bus.log c.try_query-last.new.bus) c.room.ensures.same c.try_query-last.ensures c.ending_of.ensures
