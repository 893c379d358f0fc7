use Rattle.clap.specs.Words.{found_of}
use Rattle.commandline.proofs.Found.{text_given}
use Rattle.commandline.proofs.readers.text_in.Goals as goal

pub returns-in-Some : goal.returns-in-Some
returns-in-Some c =
    let text = c.get_str in
    rw c.in-Some.is at (text_given (found_of c.args.found.now) c.args.id.now text.result text.ensures)

pub returns-in-None : goal.returns-in-None
returns-in-None c =
    let text = c.get_str in
    rw c.in-None.is at (text_given (found_of c.args.found.now) c.args.id.now text.result text.ensures)
