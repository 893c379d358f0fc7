use Rattle.std.proofs.Common.{◌≢◌, subst}
use Rattle.explaincures.specs.Trying.{IsShown}
use Rattle.explaincures.specs.declared.answers.Example.{Example}
use Rattle.explaincures.specs.declared.answers.Example.TheVariants.{Changed}
use Rattle.explaincures.specs.declared.edits.Edit.{Edit}
use Rattle.explainlines.specs.Curing.{CuresLine}
use Rattle.refusalsexplain.proofs.Results.{if_ok}
use Rattle.refusalsexplain.proofs.lines.line_that_cures_nothing_is_not_shown.Goals as goal

pub returns : goal.returns
returns c =
    let Cures = CuresLine c.args.file c.args.bytes.now c.args.number in
    if_ok (λ bad. IsShown Cures bad.answer.example) (λ bad. (edit : Edit) → bad.answer.example ≢ Changed edit)
    c.bad_line.result c.bad_line.ensures
    (λ bad shown edit same. c.requires edit (subst (λ (e : Example). IsShown Cures e) same shown))
