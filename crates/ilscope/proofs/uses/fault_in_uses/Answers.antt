use Rattle.std.proofs.Common.{List, subst}
use Rattle.std.proofs.lemmas.List.{take_all}
use Rattle.ilsource.specs.declared.uses.Use.{Use}
use Rattle.ilsource.specs.declared.symbol.Symbol.{Symbol}
use Rattle.ildeclared.specs.Faults.{IsNextOf}
use Rattle.ildeclared.proofs.Least.{next_of_more_at}
use Rattle.ilscope.specs.UseFaults.{IsFaultAtUse, IsFaultAtUses}
use Rattle.ilscope.proofs.uses.fault_in_uses.Goals as goal

pub loop-used-preserved : goal.loop-used-preserved
loop-used-preserved c =
    λ p at.
    rw c.lesser_of-least.ensures
    (next_of_more_at c.args.after (IsFaultAtUse c.args.scope.now.tree p) c.args.uses.now c.loop-used.used-index _
    c.loop-used.least c.fault_of_use.result c.loop-used-test.true (c.loop-used.invariant p at)
    (c.fault_of_use.ensures p at))

pub returns : goal.returns
returns c =
    λ p at.
    subst (λ (us : List (Use Symbol)). IsNextOf c.args.after (IsFaultAtUses c.args.scope.now.tree p us)
    c.loop-used.least)
    (take_all c.loop-used.used-index c.args.uses.now c.loop-used-test.false)
    (c.loop-used.invariant p at)
