use Rattle.buslink.proofs.reports.+read_attempts.Given as goal

abbrev pub decreases-read_attempts : goal.decreases-read_attempts
decreases-read_attempts l = l.retries
