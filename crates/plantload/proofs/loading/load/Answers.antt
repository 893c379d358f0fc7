use Rattle.ilsyms.proofs.SameMeaning.{means_the_same}
use Rattle.plantload.proofs.MeantCodes.{all_meant}
use Rattle.plantload.proofs.OneAnswer.{one_answer}
use Rattle.plantload.proofs.loading.load.Goals as goal

pub returns-in_err-plan-clause-one : goal.returns-in_err-plan-clause-one
returns-in_err-plan-clause-one c = one_answer c.args.binding.now c.args.text.now

pub returns-clause-one : goal.returns-clause-one
returns-clause-one c = one_answer c.args.binding.now c.args.text.now

pub returns-in_err-plan-clause-same_meaning : goal.returns-in_err-plan-clause-same_meaning
returns-in_err-plan-clause-same_meaning c = means_the_same

pub returns-clause-same_meaning : goal.returns-clause-same_meaning
returns-clause-same_meaning c = means_the_same

pub returns-clause-meant : goal.returns-clause-meant
returns-clause-meant c = all_meant c.args.binding.now c.args.text.now c.setup_of.result
