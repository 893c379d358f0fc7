use Rattle.std.proofs.Common.{◌≢◌, subst}
use Rattle.explaincures.specs.Trying.{IsTried, TellsFault, changed}
use Rattle.explaincures.specs.declared.edits.EditOutcome.{EditOutcome}
use Rattle.explaincures.specs.declared.edits.EditOutcome.TheVariants.{Accepted}
use Rattle.refusalsexplain.proofs.Outcomes.{not_accepted, told_of}
use Rattle.refusalsexplain.proofs.Results.{if_ok}
use Rattle.refusalsexplain.proofs.changes.refused_change_is_not_accepted.Goals as goal

pub returns : goal.returns
returns c =
    let wiring = c.args.asked.now.binding.now in let text = c.args.asked.now.text.now in let edit = c.args.edit.now in
    if_ok (IsTried wiring text c.args.line edit) (λ outcome. outcome ≢ Accepted) c.outcome.result c.outcome.ensures
    (λ outcome tried same. not_accepted edit text (changed edit text) c.args.line c.args.fault
    (subst (λ (o : EditOutcome). TellsFault edit text (changed edit text) c.args.line c.args.fault o) same
    (told_of wiring text c.args.line edit outcome c.args.fault c.requires tried)))
