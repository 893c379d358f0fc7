use Rattle.std.proofs.Common.{pos, arith}
use Rattle.std.proofs.lemmas.Int.{ints}
use Rattle.ilblocks.proofs.Ports.{numbers_of}
use Rattle.livekeep.specs.KeptFiles.{most_number}
use Rattle.livekeep.proofs.blocks.moments.Goals as goal

pub returns : goal.returns
returns c = numbers_of (pos 0) (pos most_number) _ (omega (arith, ints)) (omega (arith, ints))
