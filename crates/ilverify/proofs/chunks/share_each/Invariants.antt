use Rattle.std.proofs.Common.{◌≡◌, take}
use Rattle.ilverify.proofs.chunks.share_each.Given as goal

abbrev pub invariant-loop-chunk : goal.invariant-loop-chunk
invariant-loop-chunk l = l.made.items ≡ take l.chunk-index l.chunks
