use Rattle.std.proofs.Common.{◌≡◌, ◌∙◌, List, false, ap, is_ok}
use Rattle.iltext.specs.declared.token.Token.{Token}
use Rattle.iltext.specs.Instructions.{lines}
use Rattle.refusalslanguage.proofs.ReadLines.{not_read, of_33}
use Rattle.refusalslanguage.proofs.lines.the_33rd_parenthesis_is_a_fault.Goals as goal

pub returns : goal.returns
returns c =
    c.is_ok.ensures.value
    ∙ not_read (λ x. (x.0.items, x.1.now)) c.lines.result (lines.read c.args.ts.now) c.lines.ensures
    (ap (λ (ts : List Token). is_ok (lines.read ts)) c.requires ∙ of_33)
