use Rattle.std.proofs.Common.{◌∙◌, codes}
use Rattle.refusalslanguage.proofs.Words.{dev_ask, word_is}
use Rattle.refusalslanguage.proofs.tokens.dev_ask_is_a_word.Goals as goal

pub returns : goal.returns
returns c = word_is (codes "DEV_ASK") c.keyword_of.result c.keyword_of.ensures ∙ dev_ask
