use Rattle.std.proofs.Common.{map}
use Rattle.workers.proofs.running.run.Given as goal

abbrev pub ghosts-run_named-J-LockStart : goal.ghosts-run_named-J-LockStart
ghosts-run_named-J-LockStart g a = record { start = a.plant; cells = a.cells.now }

abbrev pub ghosts-run_named-J-Links : goal.ghosts-run_named-J-Links
ghosts-run_named-J-Links g a = record {
  buses = map g.B.Bus.log a.lines.items;
  clock = g.C.Clock.log a.clock;
}

abbrev pub ghosts-run_named-N-LedgerNames : goal.ghosts-run_named-N-LedgerNames
ghosts-run_named-N-LedgerNames g a = record { names = a.new_tallies }
