use Rattle.std.specs.Str.Parse.{ParsesUnsigned, ExplainsUnsignedError, HasUnsignedDigitsIfOk}
use Rattle.clap.specs.Words.{found_of}
use Rattle.commandline.proofs.Found.{byte_given}
use Rattle.commandline.proofs.at_line.byte_in.Goals as goal

pub returns : goal.returns
returns c =
    rw c.unwrap_or.ensures
    (byte_given (λ bs r. ParsesUnsigned 8 10 bs r × ExplainsUnsignedError 10 bs r × HasUnsignedDigitsIfOk bs r)
    (λ u x g. g.0) (found_of c.args.found.now) c.args.id.now c.get_one.result c.get_one.ensures.none
    c.get_one.ensures.value)
