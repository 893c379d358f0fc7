use Rattle.std.specs.Prelude.{◌≡◌, ◌+◌, length}
use Rattle.ilverify.specs.Tables.{AreDone}
use Rattle.ilverify.specs.BoundSteps.{longest_from}
use Rattle.ilverify.proofs.bound.fill_bodies.Given as goal

abbrev pub invariant-loop-function : goal.invariant-loop-function
invariant-loop-function l = record {
  long : length l.longest.items ≡ length l.code.instructions;
  done : AreDone l.code 0 (longest_from l.code l.through) l.longest.items (l.function + 1);
}
