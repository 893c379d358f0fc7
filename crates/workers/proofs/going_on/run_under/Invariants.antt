use Rattle.std.proofs.Common.{map}
use Rattle.workers.proofs.Earlier.{buses_before, clock_before}
use Rattle.workers.proofs.going_on.run_under.Given as goal

abbrev pub ghosts-run_named-J-LockStart : goal.ghosts-run_named-J-LockStart
ghosts-run_named-J-LockStart g a = record { start = a.plant; cells = a.cells.now }

-- the logs of before the history, so far as those of now tell them
abbrev pub ghosts-run_named-J-Links : goal.ghosts-run_named-J-Links
ghosts-run_named-J-Links g a = record {
  buses = buses_before 0 a.plant.history (map g.B.Bus.log a.lines.items);
  clock = clock_before a.plant.history (g.C.Clock.log a.clock);
}

abbrev pub ghosts-run_named-N-LedgerNames : goal.ghosts-run_named-N-LedgerNames
ghosts-run_named-N-LedgerNames g a = record { names = a.new_tallies }
