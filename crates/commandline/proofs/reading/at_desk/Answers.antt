use Rattle.commandline.specs.CommandLine.{program}
use Rattle.commandline.specs.Tables.{with_commands, with_words}
use Rattle.commandline.proofs.reading.at_desk.Goals as goal

pub returns-clause-shape : goal.returns-clause-shape
unfolding with_commands with_words
returns-clause-shape c = c.extended.ensures.shape program c.program-line.ensures.shape
