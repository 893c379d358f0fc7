use Rattle.ilverify.proofs.FunctionRanges.{abs_of}
use Rattle.ilverify.proofs.known.Known.function_of_number.Goals as goal

pub returns-in-Abs : goal.returns-in-Abs
returns-in-Abs c =
    rw (c.in-Abs.is, c.fitting.ensures) (abs_of c.args.range c.abs.result c.abs.ensures.none c.abs.ensures.least)
