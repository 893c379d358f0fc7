use Rattle.std.specs.Prelude.{None}
use Rattle.ilverify.specs.Tables.{IsFilled}
use Rattle.ilverify.specs.Through.{through_from}
use Rattle.ilverify.proofs.through.fill.Given as goal

abbrev pub invariant-loop-place : goal.invariant-loop-place
invariant-loop-place l = IsFilled l.code None (through_from l.code l.counted) l.through.items l.body l.place
