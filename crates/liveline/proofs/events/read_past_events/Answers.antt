use Rattle.std.proofs.Common.{List, ℕ, Some, subst}
use Rattle.liveline.specs.Lines.{IsMessage}
use Rattle.liveline.proofs.Keeping.{one_kept}
use Rattle.liveline.proofs.events.read_past_events.Goals as goal

-- src/events.rt:88:5
pub loop-preserved : goal.loop-preserved
loop-preserved g c =
    let says = subst (λ (line : List ℕ). IsMessage (Some c.in-Some.frame) line) c.as_slice.ensures.value c.in-Some.ensures in
    one_kept _ _ _ c.args.kept.now.items c.loop.kept.items _ c.in_ok-line.line.items c.in-Some.frame
    c.loop.invariant says c.in_ok-line.ensures c.in-Ok.ensures.ok
