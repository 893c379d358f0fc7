use Rattle.std.specs.Prelude.{◌+◌}
use Rattle.ilverify.proofs.Chains.{AreBegun}
use Rattle.ilverify.proofs.calls.lengthen.Given as goal

abbrev pub invariant-loop-function : goal.invariant-loop-function
invariant-loop-function l = AreBegun l.code (l.calls + 1) l.longer.items l.function
