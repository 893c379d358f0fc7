use Rattle.iltokens.proofs.ReservedWords.{decided}
use Rattle.iltokens.proofs.keyword.keyword_of.Goals as goal

pub returns : goal.returns
returns c = decided _ c.word_of.result c.word_of.ensures
