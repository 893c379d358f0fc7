use Rattle.std.proofs.Common.{◌≡◌, ◌<◌, drop}
use Rattle.livekeep.specs.CheckSums.{sum_from}
use Rattle.livekeep.proofs.sum.sum_of.Given as goal

abbrev pub invariant-loop-byte : goal.invariant-loop-byte
invariant-loop-byte l =
    (sum_from l.first l.second (drop l.byte-index l.bytes) ≡ sum_from 1 0 l.bytes) × (l.first < 65521)
    × (l.second < 65521)
