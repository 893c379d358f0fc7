use Rattle.std.proofs.Common.{◌≡◌, ◌∙◌, [], ◌∷◌}
use Rattle.ilscope.specs.Uses.{uses_of}
use Rattle.refusalslanguage.proofs.Results.{if_ok}
use Rattle.refusalslanguage.proofs.uses.uses_of_lines_are_all.Goals as goal

pub returns : goal.returns
returns c =
    if_ok (λ uses. uses.items ≡ uses_of c.args.lines.now) (λ uses. uses.items ≡ c.args.used.now ∷ []) c.uses_of.result
    c.uses_of.ensures (λ uses are. are ∙ c.requires)
