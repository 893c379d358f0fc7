use Rattle.std.proofs.Common.{subst, arith, List, ℕ}
use Rattle.readytasks.specs.TaskSetSteps.{rank_at}
use Rattle.readytasks.specs.ReadyLists.{IsPlaceFor}
use Rattle.readytasks.proofs.Listing.{room, in_place, joined}
use Rattle.readytasks.proofs.ready_list.join.Goals as goal

pub insert-requires : goal.insert-requires
insert-requires c =
    let place = subst (λ (xs : List ℕ). IsPlaceFor (rank_at c.args.states.now) xs c.args.task c.place_for-place.result)
    c.as_slice.ensures.value c.place_for-place.ensures.place in
    let few = room (rank_at c.args.states.now) _ _ c.args.task c.requires.order c.requires.known c.requires.absent in
    (omega arith, (place.within, omega arith))

pub returns-clause-order : goal.returns-clause-order
returns-clause-order c =
    let place = subst (λ (xs : List ℕ). IsPlaceFor (rank_at c.args.states.now) xs c.args.task c.place_for-place.result)
    c.as_slice.ensures.value c.place_for-place.ensures.place in
    rw c.insert.ensures.items (in_place (rank_at c.args.states.now) _ _ c.args.task _ c.requires.order c.requires.known place)

pub returns-clause-listed : goal.returns-clause-listed
returns-clause-listed c t = rw c.insert.ensures.items (joined _ c.args.task c.place_for-place.result t)
