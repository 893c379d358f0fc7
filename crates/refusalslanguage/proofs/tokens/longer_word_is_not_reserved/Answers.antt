use Rattle.std.proofs.Common.{◌∙◌, codes}
use Rattle.refusalslanguage.proofs.Words.{longer, word_is}
use Rattle.refusalslanguage.proofs.tokens.longer_word_is_not_reserved.Goals as goal

pub returns : goal.returns
returns c = word_is (codes "LDX") c.keyword_of.result c.keyword_of.ensures ∙ longer
