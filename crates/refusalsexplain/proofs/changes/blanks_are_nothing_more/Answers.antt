use Rattle.std.proofs.Common.{◌≢◌, true, subst}
use Rattle.explaincures.specs.Trying.{IsTried, TellsFault, changed}
use Rattle.explaincures.specs.declared.edits.EditOutcome.{EditOutcome}
use Rattle.explaincures.specs.declared.edits.EditOutcome.TheVariants.{Ended}
use Rattle.refusalsexplain.proofs.Outcomes.{no_more, told_of}
use Rattle.refusalsexplain.proofs.Results.{if_ok}
use Rattle.refusalsexplain.proofs.changes.blanks_are_nothing_more.Goals as goal

pub returns : goal.returns
returns c =
    let wiring = c.args.asked.now.binding.now in let text = c.args.asked.now.text.now in let edit = c.args.edit.now in
    if_ok (IsTried wiring text c.args.line edit) (λ outcome. outcome ≢ Ended true) c.outcome.result c.outcome.ensures
    (λ outcome tried same. no_more edit text (changed edit text) c.args.line c.args.fault c.requires.content
    (subst (λ (o : EditOutcome). TellsFault edit text (changed edit text) c.args.line c.args.fault o) same
    (told_of wiring text c.args.line edit outcome c.args.fault c.requires.fault tried)))
