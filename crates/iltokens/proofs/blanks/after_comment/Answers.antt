use Rattle.std.proofs.Common.{sym, ◌∙◌, arith}
use Rattle.iltokens.proofs.OverBlanks.{short_none}
use Rattle.iltokens.proofs.blanks.after_comment.Goals as goal

pub returns-in-len1 : goal.returns-in-len1
returns-in-len1 c = sym (short_none c.inside.rest.now (omega arith)) ∙ c.inside.invariant
