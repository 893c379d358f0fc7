use Rattle.liveline.specs.Greetings.{IsReadAway}
use Rattle.liveline.proofs.greetings.read_away.Given as goal

abbrev pub invariant-loop : goal.invariant-loop
invariant-loop g l = IsReadAway (g.R.Read.remaining l.fn.from) (g.R.Read.remaining l.from)
