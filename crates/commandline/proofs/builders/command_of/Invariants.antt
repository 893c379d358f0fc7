use Rattle.std.proofs.Common.{◌≡◌, drop, false}
use Rattle.clap.specs.Words.{app_of}
use Rattle.clap.specs.declared.builder.command.Command.TheViews.{out-Command}
use Rattle.commandline.specs.Tables.{app_of_command, with_words}
use Rattle.commandline.proofs.builders.command_of.Given as goal

-- the command so far, and the words that are left
abbrev pub invariant-loop-word : goal.invariant-loop-word
invariant-loop-word l =
    (with_words (app_of l.command) (drop l.word-index l.description.words.now) ≡ app_of_command l.description)
    × ((out-Command l.command).has_globals ≡ false)
