use Rattle.std.proofs.Common.{arith}
use Rattle.readytasks.proofs.Listing.{nowhere}
use Rattle.readytasks.proofs.ready_list.place_of.Goals as goal

pub returns : goal.returns
returns c = record { place = nowhere _ c.args.task (λ k lt. c.loop-place.invariant k (omega arith)) }
