use Rattle.std.proofs.Common.{◌≡◌, length}
use Rattle.std.specs.Io.KnownBytes.{Consumes}
use Rattle.liveline.proofs.ends.read_line.Given as goal

abbrev pub invariant-loop : goal.invariant-loop
invariant-loop g l =
    Consumes (g.R.Read.remaining l.fn.from) (g.R.Read.remaining l.from) l.line.items
    × (length l.line.items ≡ l.counter)
