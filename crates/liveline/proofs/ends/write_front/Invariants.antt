use Rattle.liveline.specs.Exchanges.{IsWrittenBut}
use Rattle.liveline.proofs.ends.write_front.Given as goal

abbrev pub invariant-loop : goal.invariant-loop
invariant-loop g l =
    IsWrittenBut l.fn.line l.rest (g.W.Write.contents l.fn.to) (g.W.Write.contents l.to)
