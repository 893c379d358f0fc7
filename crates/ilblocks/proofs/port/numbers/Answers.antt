use Rattle.std.proofs.Common.{arith}
use Rattle.std.proofs.lemmas.Int.{ints}
use Rattle.ilblocks.proofs.Ports.{numbers_of}
use Rattle.ilblocks.proofs.port.numbers.Goals as goal

pub returns : goal.returns
returns c = numbers_of c.args.lo c.args.hi _ (omega (arith, ints)) (omega (arith, ints))
