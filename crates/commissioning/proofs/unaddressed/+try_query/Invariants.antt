use Rattle.commissioning.proofs.unaddressed.+try_query.Given as goal

abbrev pub decreases-try_query : goal.decreases-try_query
decreases-try_query g l = l.retries
