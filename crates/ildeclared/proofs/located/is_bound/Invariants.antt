use Rattle.std.proofs.Common.{◌↔◌, IsTrue, take}
use Rattle.wordlines.specs.Wirings.{IsAt}
use Rattle.ildeclared.specs.Faults.{SomeOf}
use Rattle.ildeclared.proofs.located.is_bound.Given as goal

abbrev pub invariant-loop-source : goal.invariant-loop-source
invariant-loop-source l = IsTrue l.bound ↔ SomeOf (IsAt l.bus l.number) (take l.source-index l.wiring.sources)
