use Rattle.std.proofs.Common.{refl}
use Rattle.iltokens.specs.Keywords.{keywords}
use Rattle.iltokens.proofs.AllWords.{all_words}
use Rattle.iltokens.proofs.spelled_words.keywords.Goals as goal

pub returns-clause-value : goal.returns-clause-value
unfolding keywords
returns-clause-value c = refl

pub returns-clause-all : goal.returns-clause-all
unfolding keywords
returns-clause-all c = all_words
