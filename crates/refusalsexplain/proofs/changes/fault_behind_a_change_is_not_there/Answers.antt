use Rattle.std.proofs.Common.{◌≢◌, ◌+◌, subst, arith}
use Rattle.iltext.specs.declared.fault.TextFault.TheVariants as text_faults
use Rattle.plantload.specs.declared.fault.LoadFault.TheVariants as faults
use Rattle.explaincures.specs.Trying.{IsTried, TellsFault, changed, last_line}
use Rattle.explaincures.specs.declared.edits.EditOutcome.{EditOutcome}
use Rattle.explaincures.specs.declared.edits.EditOutcome.TheVariants.{Text}
use Rattle.explaincures.specs.declared.edits.Side.TheVariants.{There}
use Rattle.refusalsexplain.proofs.Outcomes.{told_of}
use Rattle.refusalsexplain.proofs.Results.{if_ok}
use Rattle.refusalsexplain.proofs.changes.fault_behind_a_change_is_not_there.Goals as goal

pub returns : goal.returns
returns c =
    let wiring = c.args.asked.now.binding.now in let text = c.args.asked.now.text.now in let edit = c.args.edit.now in
    let fault = faults.Text (text_faults.At (last_line edit text (changed edit text) c.args.line + 1) 1 c.args.cause) in
    if_ok (IsTried wiring text c.args.line edit) (λ outcome. outcome ≢ Text There) c.outcome.result c.outcome.ensures
    (λ outcome tried same.
    let there = subst (λ (o : EditOutcome). TellsFault edit text (changed edit text) c.args.line fault o) same
    (told_of wiring text c.args.line edit outcome fault c.requires tried) in
    omega (arith, there.1.1))
