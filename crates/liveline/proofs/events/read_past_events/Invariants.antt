use Rattle.liveline.proofs.Keeping.{AreKept}
use Rattle.liveline.proofs.events.read_past_events.Given as goal

abbrev pub invariant-loop : goal.invariant-loop
invariant-loop g l =
    AreKept (g.R.Read.remaining l.fn.from) (g.R.Read.remaining l.from) l.fn.kept.items l.kept.items
