use Rattle.plantload.proofs.KeptSetups.{are_left_out, kept_codes_meant, one_kept_answer}
use Rattle.plantload.proofs.kept.load_kept.Goals as goal

pub returns-in_err-setup-clause-one : goal.returns-in_err-setup-clause-one
returns-in_err-setup-clause-one c = one_kept_answer c.args.binding.now c.args.text.now c.args.kept.now.values

pub returns-in_err-begin_kept-clause-one : goal.returns-in_err-begin_kept-clause-one
returns-in_err-begin_kept-clause-one c = one_kept_answer c.args.binding.now c.args.text.now c.args.kept.now.values

pub returns-clause-setup : goal.returns-clause-setup
returns-clause-setup c =
    c.in_ok-begin_kept.ensures.setup c.args.binding.now c.args.text.now c.in_ok-setup.ensures.setup

pub returns-clause-left_out : goal.returns-clause-left_out
returns-clause-left_out c =
    are_left_out c.args.binding.now c.args.text.now c.args.kept.now.values c.in_ok-setup.setup.plan _
    c.in_ok-setup.ensures.setup.plan c.in_ok-begin_kept.ensures.left_out

pub returns-clause-meant : goal.returns-clause-meant
returns-clause-meant c = kept_codes_meant c.args.binding.now c.args.text.now c.args.kept.now.values _

pub returns-clause-one : goal.returns-clause-one
returns-clause-one c = one_kept_answer c.args.binding.now c.args.text.now c.args.kept.now.values
