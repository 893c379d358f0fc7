use Rattle.clap.specs.Words.{found_of}
use Rattle.commandline.proofs.Found.{flag_given}
use Rattle.commandline.proofs.readers.flag_in.Goals as goal

pub returns : goal.returns
returns c =
    let flag = c.get_flag in
    flag_given (found_of c.args.found.now) c.args.id.now flag.result flag.ensures.none flag.ensures.value
    flag.ensures.other
