use Rattle.std.proofs.Common.{Some, None}
use Rattle.iltokens.proofs.ReservedWords.{kind_is}
use Rattle.iltokens.proofs.front.word_kind.Goals as goal

pub returns-in-Some : goal.returns-in-Some
returns-in-Some c = kind_is _ (Some c.in-Some.keyword) c.in-Some.ensures

pub returns-in-None : goal.returns-in-None
returns-in-None c = kind_is _ None c.in-None.ensures
