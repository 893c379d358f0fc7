use Rattle.std.proofs.Common.{List, subst, sym}
use Rattle.std.specs.Prelude.{All}
use Rattle.wordlines.specs.declared.sources.BoundSource.{BoundSource}
use Rattle.wordlines.specs.Wirings.{Wiring, IsAt}
use Rattle.wordlines.proofs.BoundSources.{one_more, free_of}
use Rattle.wordlines.proofs.binding.Binding.with.Goals as goal

pub invariant_of-result : goal.invariant_of-result
invariant_of-result c =
    let inside = c.self.inside in
    let wiring : Wiring =
    record { buses = inside.buses; sources = inside.sources.items; tries = inside.tries.items } in
    let bound = c.args.bound in
    let unfound = free_of c.bound_at.result _ _ (sym c.if-is_some.ensures) c.bound_at.ensures in
    let free = subst (λ (xs : List BoundSource). All (λ b. ¬ IsAt bound.bus bound.number b) xs) c.deref.ensures.value
    unfound in
    rw c.in_ok-push.ensures.items
    (one_more wiring bound c.self.invariant c.requires (record { bus = c.if-bound-self.false; free = free }))
