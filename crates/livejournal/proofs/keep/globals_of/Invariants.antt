use Rattle.std.proofs.Common.{◌≡◌, length}
use Rattle.livejournal.proofs.keep.globals_of.Given as goal

-- a value for each variable so far
abbrev pub invariant-loop-global : goal.invariant-loop-global
invariant-loop-global l = length l.values.items ≡ l.global
