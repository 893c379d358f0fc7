use Rattle.ilverify.proofs.RuleOperators.{load_bad_slot}
use Rattle.ilverify.proofs.rules.load_known.Goals as goal

pub returns-in-None : goal.returns-in-None
returns-in-None c = rw c.in-None.is (load_bad_slot c.args.negated)
