use Rattle.std.proofs.Common.{◌≡◌, ◌≤◌, ℕ, List, sym, subst, ◌∙◌, ap, arith}
use Rattle.std.specs.List.{AllPairs}
use Rattle.wordlines.specs.Happenings.{ticks}
use Rattle.wordlines.proofs.Orders.{ticks_never_fall}
use Rattle.simbus.proofs.clocks.ScriptedClock.of.Goals as goal

pub invariant_of-result : goal.invariant_of-result
invariant_of-result c =
    let statements : c.lines.result.now ≡ c.args.scenario.now = c.lines.ensures.statements in
    let moments : c.in_ok-moments.moments.items ≡ ticks c.args.scenario.now = c.in_ok-moments.ensures
    ∙ ap ticks statements in
    record {
      never_fall =
          subst (λ (ms : List ℕ). AllPairs (λ earlier later. earlier ≤ later) ms) (sym moments)
          (ticks_never_fall c.args.scenario.now c.lines.ensures.order);
      given = omega arith;
    }
