use Rattle.std.specs.Prelude.{option_map}
use Rattle.textanswers.proofs.MeantScans.{has_task, stepped}
use Rattle.textanswers.proofs.OneStep.{one_step}
use Rattle.textanswers.proofs.answers.step.Goals as goal

pub returns-in_err-setup-clause-one : goal.returns-in_err-setup-clause-one
returns-in_err-setup-clause-one c name =
    one_step c.args.binding.now c.args.text.now name c.args.scans c.args.every

pub returns-in_err-made-clause-one : goal.returns-in_err-made-clause-one
returns-in_err-made-clause-one c name =
    one_step c.args.binding.now c.args.text.now name c.args.scans c.args.every

pub returns-clause-one : goal.returns-clause-one
returns-clause-one c name = one_step c.args.binding.now c.args.text.now name c.args.scans c.args.every

-- the runs of the text's codes are the scans of its source program
pub new-requires : goal.new-requires
new-requires c =
    let wiring = c.args.binding.now in let bytes = c.args.text.now in let setup = c.in_ok-setup.setup in
    let found = c.in_ok-setup.ensures.found in
    let made = c.in_ok-made.ensures in
    has_task wiring bytes setup found.loaded (c.runs_are_as_meant.ensures wiring bytes setup found.loaded)
    c.in_ok-setup.number c.args.scans c.args.every _ _ made.typed made.made

pub returns-clause-made : goal.returns-clause-made
returns-clause-made c =
    let wiring = c.args.binding.now in let bytes = c.args.text.now in let setup = c.in_ok-setup.setup in
    let found = c.in_ok-setup.ensures.found in
    let made = c.in_ok-made.ensures in
    rw c.new.ensures
    (stepped wiring bytes setup found.loaded (c.runs_are_as_meant.ensures wiring bytes setup found.loaded)
    c.in_ok-setup.number c.args.scans c.args.every _ _ made.typed made.made (option_map (λ name. name.now) c.args.task)
    found.called)
