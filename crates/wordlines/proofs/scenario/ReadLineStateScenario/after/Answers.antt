use Rattle.std.proofs.Common.{◌≡◌, ◌++◌, [], Option, ℕ, ap, sym, subst, ◌∙◌}
use Rattle.std.specs.List.{fold}
use Rattle.wordlines.specs.Entries.{statements_of}
use Rattle.wordlines.specs.Following.{clock, clock_after, FollowOneAnother}
use Rattle.wordlines.proofs.Orders.{follow-append, clock-append}
use Rattle.wordlines.proofs.scenario.ReadLineStateScenario.after.Goals as goal

-- the clock is that of all statements so far, each of which follows those before it
pub invariant_of-result : goal.invariant_of-result
invariant_of-result c =
    let before = c.self.inside.known in
    let its = statements_of c.in-Some.entry in
    let more : c.in_ok-known.known ≡ before ++ its = c.in_ok-known.ensures.more in
    let moved = ap (λ (k : Option ℕ). fold clock_after k its) c.self.invariant.0 in
    let now : c.clock_after-now.result ≡ fold clock_after c.self.inside.now its = c.clock_after-now.ensures in (
      now ∙ (moved ∙ (sym (clock-append before its) ∙ ap clock (sym more))),
      subst (FollowOneAnother []) (sym more)
          (follow-append [] before its c.self.invariant.1 c.in-Some.ensures.follows.order),
    )
