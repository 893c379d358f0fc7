use Rattle.std.proofs.Common.{arith}
use Rattle.std.proofs.lemmas.Int.{ints, clamps}
use Rattle.iltypes.proofs.wide.least_of.Goals as goal

pub returns : goal.returns
returns c = omega (arith, ints, clamps, c.min.ensures.value, c.min-2.ensures.value, c.min-3.ensures.value)
