use Rattle.std.proofs.Common.{◌≡◌, ◌∙◌, List, [], ◌∷◌, ap}
use Rattle.iltext.specs.declared.token.Token.{Token}
use Rattle.iltext.specs.Instructions.{TextLine, lines}
use Rattle.refusalslanguage.proofs.ReadLines.{least, of_limit, value_read}
use Rattle.refusalslanguage.proofs.Results.{if_ok}
use Rattle.refusalslanguage.proofs.lines.limit_is_at_least_its_first_bound.Goals as goal

pub returns : goal.returns
returns c =
    if_ok (λ x. (x.0.items, x.1.now) ≡ (least ∷ [], [])) (λ x. x.0.items ≡ least ∷ []) c.lines.result
    (value_read (λ x. (x.0.items, x.1.now)) c.lines.result (lines.read c.args.ts.now) (least ∷ [], []) c.lines.ensures
    (ap (λ (ts : List Token). lines.read ts) c.requires ∙ of_limit))
    (λ x is. ap (λ (read : List TextLine × List Token). read.0) is)
