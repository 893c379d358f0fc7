use Rattle.commandline.specs.CommandLine.{trying_line}
use Rattle.commandline.specs.Tables.{with_commands, with_words}
use Rattle.commandline.proofs.reading.at_line.Goals as goal

pub returns-clause-shape : goal.returns-clause-shape
unfolding with_commands with_words
returns-clause-shape c = c.extended.ensures.shape trying_line c.in_ok-line.ensures.shape
