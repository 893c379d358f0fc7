use Rattle.std.proofs.Common.{◌∙◌, codes, lit≤}
use Rattle.refusalslanguage.proofs.Lexed.{next_is, comment}
use Rattle.refusalslanguage.proofs.tokens.comment_ends_at_its_mark.Goals as goal

pub returns : goal.returns
returns c = next_is (codes "(*a)*)") (lit≤ tt) c.token.result c.token.ensures.only ∙ comment
