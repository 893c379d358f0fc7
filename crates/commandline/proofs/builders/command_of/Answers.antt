use Rattle.std.proofs.Common.{◌∙◌, ◌+◌, ap, drop, sym}
use Rattle.std.proofs.lemmas.List.{at_drop_more, drop_all}
use Rattle.clap.specs.Words.{App, app_of}
use Rattle.commandline.specs.Tables.{with_words}
use Rattle.commandline.proofs.builders.command_of.Goals as goal

pub loop-word-preserved : goal.loop-word-preserved
unfolding with_words
loop-word-preserved c =
    let words = c.args.description.words.now in
    let rest = drop (c.loop-word.word-index + 1) words in
    let more = ap (λ (app : App). with_words app rest) c.in_ok-command.ensures.shape in
    let command = app_of c.loop-word.command in
    let before = at_drop_more (with_words command) words c.loop-word.word-index _ c.loop-word-test.true in
    (more ∙ sym before ∙ c.loop-word.invariant.0, c.in_ok-command.ensures.local)

pub returns-clause-shape : goal.returns-clause-shape
unfolding with_words
returns-clause-shape c =
    let none = drop_all c.loop-word.word-index c.args.description.words.now c.loop-word-test.false in
    sym (ap (with_words (app_of c.loop-word.command)) none) ∙ c.loop-word.invariant.0
