use Rattle.std.proofs.Common.{arith}
use Rattle.std.proofs.lemmas.Int.{ints, clamps}
use Rattle.iltypes.proofs.wide.greatest_of.Goals as goal

pub returns : goal.returns
returns c = omega (arith, ints, clamps, c.max.ensures.value, c.max-2.ensures.value, c.max-3.ensures.value)
