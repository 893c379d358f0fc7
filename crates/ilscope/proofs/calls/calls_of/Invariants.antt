use Rattle.std.proofs.Common.{◌≡◌, take}
use Rattle.ilscope.specs.Calls.{calls_of}
use Rattle.ilscope.proofs.calls.calls_of.Given as goal

abbrev pub invariant-loop-line : goal.invariant-loop-line
invariant-loop-line l = l.calls.items ≡ calls_of (take l.line-index l.lines)
