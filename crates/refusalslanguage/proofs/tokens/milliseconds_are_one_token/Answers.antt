use Rattle.std.proofs.Common.{◌∙◌, codes, lit≤}
use Rattle.refusalslanguage.proofs.Lexed.{next_is, milliseconds}
use Rattle.refusalslanguage.proofs.tokens.milliseconds_are_one_token.Goals as goal

pub returns : goal.returns
returns c = next_is (codes "T#5ms") (lit≤ tt) c.token.result c.token.ensures.only ∙ milliseconds
