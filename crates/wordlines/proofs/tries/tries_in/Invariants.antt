use Rattle.std.proofs.Common.{◌≡◌, drop}
use Rattle.wordlines.specs.Wirings.{tries_in}
use Rattle.wordlines.proofs.tries.tries_in.Given as goal

abbrev pub invariant-loop-one : goal.invariant-loop-one
invariant-loop-one l = tries_in (drop l.one-index l.said) l.bus ≡ tries_in l.said l.bus
