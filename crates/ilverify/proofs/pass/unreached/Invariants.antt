use Rattle.std.proofs.Common.{◌≡◌, None, replicate}
use Rattle.ilverify.proofs.pass.unreached.Given as goal

abbrev pub invariant-loop-place : goal.invariant-loop-place
invariant-loop-place l = l.pending.items ≡ replicate l._place None
