use Rattle.std.proofs.Common.{◌≡◌, take}
use Rattle.ilscope.specs.Uses.{uses_of}
use Rattle.ilscope.proofs.uses.uses_of.Given as goal

abbrev pub invariant-loop-line : goal.invariant-loop-line
invariant-loop-line l = l.uses.items ≡ uses_of (take l.line-index l.lines)
