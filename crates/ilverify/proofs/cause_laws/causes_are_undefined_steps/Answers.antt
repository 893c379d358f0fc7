use Rattle.ilverify.proofs.Undefined.{no_whim}
use Rattle.ilverify.proofs.cause_laws.causes_are_undefined_steps.Goals as goal

pub returns : goal.returns
returns c = no_whim
