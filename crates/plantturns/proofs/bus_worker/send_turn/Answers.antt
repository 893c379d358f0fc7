use Rattle.plantturns.proofs.Sending.{turn_refused}
use Rattle.plantturns.proofs.bus_worker.send_turn.Goals as goal

pub returns-in-Err-clause-sends : goal.returns-in-Err-clause-sends
returns-in-Err-clause-sends g c =
    rw c.turn_where_refused.ensures
    (turn_refused g.J.LockStart.start c.args.bus c.args.served.now.share c.send_once.new.served.share
    (g.B.Bus.log c.args.served.now.line) (g.B.Bus.log c.send_once.new.served.line) c.in-Err.halt c.in-Err.ensures.sends)
