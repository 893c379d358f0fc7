use Rattle.std.proofs.Common.{◌≡◌, map, take}
use Rattle.ilplan.specs.Functions.{depth_in, greatest}
use Rattle.ilsyms.proofs.usage.depth_of.Given as goal

abbrev pub invariant-loop-number : goal.invariant-loop-number
invariant-loop-number l = l.deepest ≡ greatest (map (depth_in l.depths) (take l.number-index l.calls))
