use Rattle.std.proofs.Common.{◌≡◌, ◌*◌, ◌++◌, drop}
use Rattle.ilverify.specs.ChunkSteps.{whole}
use Rattle.ilverify.proofs.ChunkPlaces.{AreFull}
use Rattle.ilverify.proofs.chunks.cut.Given as goal

abbrev pub invariant-loop-k : goal.invariant-loop-k
invariant-loop-k l =
    record { full : AreFull l.made.items; all : whole l.made.items ++ drop (l.k * 64) l.items ≡ l.items }
