use Rattle.clap.specs.Words.{found_of, rows_of}
use Rattle.commandline.proofs.CodeFiles.{one_reading}
use Rattle.commandline.proofs.checks.names_input.Goals as goal

pub returns : goal.returns
returns c =
    let words = c.code_words_in.result in
    let are = c.code_words_in.ensures in
    let is = c.is_input.ensures in (
      λ yes. (words.files, words.task, words.to, are, is.0 yes),
      λ names. is.1 (one_reading (rows_of (found_of c.args.found.now)) words.files words.task words.to are names),
    )
