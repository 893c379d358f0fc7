use Rattle.commandline.specs.CommandLine.{tool_line}
use Rattle.commandline.specs.Tables.{with_commands, with_words}
use Rattle.commandline.proofs.reading.command.Goals as goal

pub returns : goal.returns
unfolding with_commands with_words
returns c = c.extended.ensures.shape tool_line c.in_ok-line.ensures.shape
