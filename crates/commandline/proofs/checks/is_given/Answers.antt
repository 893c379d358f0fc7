use Rattle.clap.specs.Words.{found_of}
use Rattle.commandline.proofs.Given.{word_given}
use Rattle.commandline.proofs.checks.is_given.Goals as goal

pub returns : goal.returns
returns c =
    rw c.is_some.ensures (word_given (found_of c.args.found.now) c.args.id.now c.get_str.result c.get_str.ensures)
