use Rattle.std.proofs.Common.{◌∙◌, ap}
use Rattle.iltokens.specs.KeywordSteps.{lookup, words_by}
use Rattle.iltokens.proofs.WordRows.{row_is_enough, no_first}
use Rattle.iltokens.proofs.keyword.word_of.Goals as goal

pub returns-in_default : goal.returns-in_default
returns-in_default c = no_first c.args.text.now c.in_default.len_below

pub returns : goal.returns
returns c =
    c.lookup.ensures
    ∙ ap (λ ks. lookup ks c.args.text.now) c.words_by.ensures
    ∙ ap (λ letter. lookup (words_by letter) c.args.text.now) c.to_ascii_lowercase.ensures.value
    ∙ row_is_enough c.args.text.now c.in-len1-up.len_at_least
