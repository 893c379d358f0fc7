use Rattle.std.specs.Str.Parse.{ParsesUnsigned, ExplainsUnsignedError, HasUnsignedDigitsIfOk}
use Rattle.clap.specs.Words.{found_of}
use Rattle.commandline.proofs.Found.{number_given}
use Rattle.commandline.proofs.readers.number_in.Goals as goal

pub returns-in-Some : goal.returns-in-Some
returns-in-Some c =
    rw c.in-Some.is
    at (number_given
    (λ bs r. ParsesUnsigned 32 10 bs r × ExplainsUnsignedError 10 bs r × HasUnsignedDigitsIfOk bs r) (λ u x g. g.0)
    c.args.default (found_of c.args.found.now) c.args.id.now c.get_one.result c.get_one.ensures.none
    c.get_one.ensures.value)

pub returns-in-None : goal.returns-in-None
returns-in-None c =
    rw c.in-None.is
    at (number_given
    (λ bs r. ParsesUnsigned 32 10 bs r × ExplainsUnsignedError 10 bs r × HasUnsignedDigitsIfOk bs r) (λ u x g. g.0)
    c.args.default (found_of c.args.found.now) c.args.id.now c.get_one.result c.get_one.ensures.none
    c.get_one.ensures.value)
