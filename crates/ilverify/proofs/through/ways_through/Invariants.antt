use Rattle.std.specs.Prelude.{◌≡◌, ◌+◌, ◌<◌, length, None}
use Rattle.ilverify.specs.Tables.{AreDone}
use Rattle.ilverify.specs.Through.{through_from}
use Rattle.ilverify.proofs.through.ways_through.Given as goal

abbrev pub invariant-loop-function : goal.invariant-loop-function
invariant-loop-function l = record {
  long : 0 < length l.code.functions → length l.through.items ≡ length l.code.instructions;
  done : AreDone l.code None (through_from l.code l.counted) l.through.items (l.function + 1);
}
