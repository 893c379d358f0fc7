use Rattle.std.proofs.Common.{◌≡◌, ◌+◌, ◌∙◌, subst, sym}
use Rattle.plant.specs.Shown.{used}
use Rattle.workers.specs.declared.closed.ClosedParts.{ClosedParts}
use Rattle.workers.specs.declared.ended.Ended.{Ended}
use Rattle.workers.specs.declared.ended.Ended.TheVariants.{Limit}
use Rattle.plantlive.specs.Lives.{IsEnd}
use Rattle.plantlive.specs.LivesSteps.{IsSince}
use Rattle.plantlive.proofs.Since.{since_on}
use Rattle.plantlive.proofs.living.go_on_while_full.Goals.{in-Limit, in_default}
use Rattle.plantlive.proofs.living.go_on_while_full.Goals as goal

pub loop-preserved : goal.loop-preserved
loop-preserved g c = (
  tt,
  tt,
  λ p logs first was.
      since_on g.B.Bus.log g.C.Clock.log p logs first (used c.loop.left.plant + c.args.more) c.loop.left c.in-Ok.next
      c.in-Ok.ensures.gone_on.went (c.loop.invariant.2 p logs first was),
)

pub returns-in-Err-clause-since : goal.returns-in-Err-clause-since
returns-in-Err-clause-since g c =
    λ p logs first was.
    subst (λ (left : ClosedParts g.row.B.Denot g.row.C.Denot). IsSince p logs first g.B.Bus.log g.C.Clock.log left)
    (sym c.in-Err.ensures.gone_on.closed) (c.loop.invariant.2 p logs first was)

pub returns-in-Err-clause-why : goal.returns-in-Err-clause-why
returns-in-Err-clause-why g c =
    let refused = c.in-Err.ensures.gone_on in let left = c.loop.left in
    let full : left.ended ≡ Limit =
    elim c.match-matches.branch [
      | in-Limit w ↦ sym c.ending-ended.ensures.value ∙ w.in-Limit.is
      | in_default w ↦ absurd (cc (w.matches-is, c.if-not-matches.false))
    ] in
    subst (λ (old : ClosedParts g.row.B.Denot g.row.C.Denot).
    IsEnd (used old.plant) c.args.more old.ended c.end_of.result) (sym refused.closed)
    (subst (λ (ended : Ended). IsEnd (used left.plant) c.args.more ended c.end_of.result) (sym full)
    (c.end_of.ensures (used left.plant) c.args.more c.requires.more refused.fault))
