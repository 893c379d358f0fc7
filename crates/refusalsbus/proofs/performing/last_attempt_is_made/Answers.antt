use Rattle.refusalsbus.proofs.Attempting.{given_up_late}
use Rattle.refusalsbus.proofs.performing.last_attempt_is_made.Goals as goal

pub returns : goal.returns
returns g c = given_up_late c.perform.result c.perform.ensures.report.1 c.perform.ensures.tries
