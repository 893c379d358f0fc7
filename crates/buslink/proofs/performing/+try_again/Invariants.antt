use Rattle.buslink.proofs.performing.+try_again.Given as goal

abbrev pub decreases-try_again : goal.decreases-try_again
decreases-try_again g l = l.retries
