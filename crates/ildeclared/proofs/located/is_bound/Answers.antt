use Rattle.std.proofs.Common.{inl, inr}
use Rattle.wordlines.specs.Wirings.{IsAt}
use Rattle.ildeclared.proofs.OneCause.{flag_more}
use Rattle.ildeclared.proofs.located.is_bound.Goals.{then-is_at, else-is_at}
use Rattle.ildeclared.proofs.located.is_bound.Goals as goal

pub loop-source-preserved : goal.loop-source-preserved
loop-source-preserved c =
    flag_more (IsAt c.args.bus c.args.number) c.sources-source-items.result.now c.args.wiring.now.sources
    c.loop-source.source-index _ c.is_at.result c.loop-source.bound c.if-is_at.bound
    c.sources-source-items.ensures.value
    c.loop-source-test.true c.is_at.ensures c.loop-source.invariant
    (elim c.if-is_at.branch [
      | then-is_at w ↦ inl (w.if-is_at.true, w.bound-is)
      | else-is_at w ↦ inr (w.if-is_at.false, w.bound-is)
    ])
