use Rattle.std.proofs.Common.{◌≡◌, length}
use Rattle.workers.proofs.running.new_cells.Given as goal

abbrev pub invariant-loop-cell : goal.invariant-loop-cell
invariant-loop-cell l = length l.cells.items ≡ l._cell
