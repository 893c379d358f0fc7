use Rattle.std.proofs.Common.{◌≡◌, ◌*◌}
use Rattle.std.specs.Arc.{arc_value}
use Rattle.ilblocks.specs.Stores.{blocks_at_first}
use Rattle.textanswers.specs.Stepping.{ScansTo, lasting}
use Rattle.textanswers.proofs.scans.make.Given as goal

abbrev pub invariant-loop-number : goal.invariant-loop-number
invariant-loop-number l =
    ScansTo (arc_value l.code) l.every l.number (lasting l.from (blocks_at_first (arc_value l.code).code.kinds))
    l.each.items l.left.lasting
    × (l.left.verified ≡ arc_value l.code)
    × (l.left.moment ≡ l.number * l.every)
