use Rattle.ilverify.proofs.CausesAtWords.{one_cause}
use Rattle.ilverify.proofs.cause.least_cause_is_one.Goals as goal

pub returns : goal.returns
returns c = one_cause
