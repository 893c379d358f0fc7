use Rattle.std.proofs.Common.{◌≢◌, subst}
use Rattle.iltext.specs.declared.fault.TextFault.TheVariants as text_faults
use Rattle.plantload.specs.declared.fault.LoadFault.TheVariants as faults
use Rattle.explaincures.specs.Trying.{IsTried, TellsFault, changed}
use Rattle.explaincures.specs.declared.edits.EditOutcome.{EditOutcome}
use Rattle.explaincures.specs.declared.edits.EditOutcome.TheVariants.{Text}
use Rattle.explaincures.specs.declared.edits.Side.{Side}
use Rattle.refusalsexplain.proofs.Outcomes.{told_of}
use Rattle.refusalsexplain.proofs.Results.{if_ok}
use Rattle.refusalsexplain.proofs.changes.fault_at_the_end_has_no_side.Goals as goal

pub returns : goal.returns
returns c =
    let wiring = c.args.asked.now.binding.now in let text = c.args.asked.now.text.now in let edit = c.args.edit.now in
    let fault = faults.Text (text_faults.At c.args.found.line c.args.found.col c.args.cause) in
    if_ok (IsTried wiring text c.args.line edit) (λ outcome. (side : Side) → outcome ≢ Text side) c.outcome.result
    c.outcome.ensures
    (λ outcome tried side same.
    let told = subst (λ (o : EditOutcome). TellsFault edit text (changed edit text) c.args.line fault o) same
    (told_of wiring text c.args.line edit outcome fault c.requires.fault tried) in
    told.0 c.requires.end)
