use Rattle.std.proofs.Common.{ℕ, List, length, sym, subst}
use Rattle.plantevents.specs.Choices.{Chooses, is_free, rank}
use Rattle.readytasks.specs.TaskSets.{KeptTask, Follows}
use Rattle.readytasks.specs.TaskSetSteps.{is_free_at, rank_at}
use Rattle.readytasks.specs.ReadyLists.{IsReadyList}
use Rattle.readytasks.proofs.Choosing.{chooses_same}
use Rattle.readytasks.proofs.Following.{free_same, rank_same}
use Rattle.readytasks.proofs.tasks.Tasks.next.Goals as goal

pub returns : goal.returns
returns c = record {
  next = λ p h kept.
      let was = subst (Follows p h) (sym c.self.view_is) kept in
      let tasks = c.self.inside.states.items in
      let moment = c.self.inside.moment in
      let best = c.choose.result in
      let is = subst (λ (ts : List KeptTask). IsReadyList ts moment c.as_slice.result.now) (sym c.deref.ensures.value)
      (subst (λ (list : List ℕ). IsReadyList tasks moment list) (sym c.as_slice.ensures.value) c.self.invariant) in
      let chosen : Chooses (is_free_at tasks moment) (rank_at tasks) (length tasks) best =
      subst (λ (ts : List KeptTask). Chooses (is_free_at ts moment) (rank_at ts) (length ts) best)
      c.deref.ensures.value (c.choose.ensures.first moment is) in
      chooses_same (is_free p h) (is_free_at tasks moment) (rank p h) (rank_at tasks) _ best
      (free_same p h _ was) (rank_same p h _ was)
      (subst (λ n. Chooses (is_free_at tasks moment) (rank_at tasks) n best) was.count chosen);
}
