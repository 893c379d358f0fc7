use Rattle.std.proofs.Common.{refl}
use Rattle.readytasks.specs.TaskSetSteps.{rank_at}
use Rattle.std.proofs.lemmas.Bool.{false≢true}
use Rattle.readytasks.proofs.Listing.{place_behind}
use Rattle.readytasks.proofs.ready_list.place_for.Goals as goal

pub returns-else-goes_before : goal.returns-else-goes_before
returns-else-goes_before c = record {
  place = place_behind (rank_at c.args.states.now) _ c.args.ready.now c.args.task c.loop-place.place (λ u. refl)
      c.requires.order c.requires.absent c.loop-place.invariant.within
      (λ _ leads. false≢true (c.if-goes_before.ensures.value.1 leads))
      c.loop-place.invariant.before;
}
