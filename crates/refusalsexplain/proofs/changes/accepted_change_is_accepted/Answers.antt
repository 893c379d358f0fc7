use Rattle.std.proofs.Common.{◌≡◌}
use Rattle.explaincures.specs.Trying.{IsTried}
use Rattle.explaincures.specs.declared.edits.EditOutcome.TheVariants.{Accepted}
use Rattle.refusalsexplain.proofs.Outcomes.{accepted}
use Rattle.refusalsexplain.proofs.Results.{if_ok}
use Rattle.refusalsexplain.proofs.changes.accepted_change_is_accepted.Goals as goal

pub returns : goal.returns
returns c =
    let wiring = c.args.asked.now.binding.now in let text = c.args.asked.now.text.now in let edit = c.args.edit.now in
    if_ok (IsTried wiring text c.args.line edit) (λ outcome. outcome ≡ Accepted) c.outcome.result c.outcome.ensures
    (λ outcome tried. accepted wiring text c.args.line edit outcome c.requires.0 c.requires.1 tried)
