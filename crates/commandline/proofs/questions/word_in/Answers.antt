use Rattle.clap.specs.Words.{found_of}
use Rattle.commandline.proofs.Found.{text_found}
use Rattle.commandline.proofs.questions.word_in.Goals as goal

pub returns : goal.returns
returns c =
    let word = c.get_str in
    text_found (found_of c.args.found.now) c.args.id.now word.result word.ensures
