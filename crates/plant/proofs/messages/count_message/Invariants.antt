use Rattle.plant.proofs.BoundOn.{AreCounted}
use Rattle.plant.proofs.messages.count_message.Given as goal

abbrev pub invariant-loop-number : goal.invariant-loop-number
invariant-loop-number l = AreCounted l.sources l.numbers l.bus l.frame l.number-index l.fn.counts.items l.counts.items
