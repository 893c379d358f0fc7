use Rattle.std.proofs.Common.{arith}
use Rattle.std.proofs.lemmas.Bool.Decides.{nat_tests}
use Rattle.iltokens.specs.KeywordSteps.{word_rows, words_by}
use Rattle.iltokens.proofs.keyword.words_by.Goals as goal

pub returns-in_default : goal.returns-in_default
unfolding words_by word_rows
returns-in_default c = grind (arith, nat_tests)
