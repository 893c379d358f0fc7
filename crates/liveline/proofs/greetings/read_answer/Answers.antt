use Rattle.std.proofs.Common.{sym, ◌∙◌, true≢false}
use Rattle.liveline.proofs.Greeting.{one_passed}
use Rattle.liveline.proofs.greetings.read_answer.Goals as goal

pub loop-preserved : goal.loop-preserved
loop-preserved g c = (
  one_passed c.args.version c.args.number _ _ _ c.in_ok-line.line.items c.loop.invariant.0
      (λ same. true≢false (sym (c.is_line.ensures.1 (same ∙ sym c.loop.invariant.1)) ∙ c.if-is_line.false))
      (λ same. true≢false (sym (c.is_refusal.ensures.1 same) ∙ c.if-is_refusal.false))
      c.in_ok-line.ensures,
  c.loop.invariant.1,
)
