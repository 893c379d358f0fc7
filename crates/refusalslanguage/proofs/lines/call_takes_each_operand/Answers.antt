use Rattle.std.proofs.Common.{◌≡◌, ◌∙◌, List, true, ap, is_ok}
use Rattle.iltext.specs.declared.token.Token.{Token}
use Rattle.iltext.specs.Instructions.{lines}
use Rattle.refusalslanguage.proofs.ReadLines.{no_fault, of_call}
use Rattle.refusalslanguage.proofs.lines.call_takes_each_operand.Goals as goal

pub returns : goal.returns
returns c =
    no_fault (λ x. (x.0.items, x.1.now)) c.lines.result (lines.read c.args.ts.now) c.lines.ensures
    (ap (λ (ts : List Token). is_ok (lines.read ts)) c.requires ∙ of_call)
