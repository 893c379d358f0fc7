use Rattle.std.proofs.Common.{List, subst}
use Rattle.std.specs.Prelude.{All}
use Rattle.wordlines.specs.declared.tries.BusTries.{BusTries}
use Rattle.wordlines.specs.Wirings.{Wiring, IsSaidOf}
use Rattle.wordlines.proofs.SaidTries.{one_more_tries}
use Rattle.wordlines.proofs.binding.Binding.with_tries.Goals as goal

pub invariant_of-result : goal.invariant_of-result
invariant_of-result c =
    let inside = c.self.inside in
    let wiring : Wiring =
    record { buses = inside.buses; sources = inside.sources.items; tries = inside.tries.items } in
    let said = c.args.said in
    let free = subst (λ (xs : List BusTries). All (λ earlier. ¬ IsSaidOf said.bus earlier) xs) c.deref.ensures.value
    (c.is_unsaid.ensures.0 c.if-not-is_unsaid.false) in
    rw c.in_ok-push.ensures.items
    (one_more_tries wiring said c.self.invariant c.requires (record { bus = c.if-said-self.false; free = free }))
