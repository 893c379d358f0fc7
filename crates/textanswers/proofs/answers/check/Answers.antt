use Rattle.textanswers.proofs.OneStep.{one_check}
use Rattle.textanswers.proofs.answers.check.Goals as goal

pub returns-in_err-load-clause-one : goal.returns-in_err-load-clause-one
returns-in_err-load-clause-one c = one_check c.args.binding.now c.args.text.now

pub returns-clause-one : goal.returns-clause-one
returns-clause-one c = one_check c.args.binding.now c.args.text.now
