use Rattle.std.proofs.Common.{◌<◌, length, refl, sym, ap, ◌∙◌, subst, arith}
use Rattle.std.proofs.lemmas.List.{get_or_default}
use Rattle.plantevents.specs.declared.event.Event.TheVariants.{Commit}
use Rattle.readytasks.specs.TaskSets.{TaskSet, KeptTask, Follows, TaskFollows, setup_of, no_task}
use Rattle.readytasks.specs.TaskSetSteps.{is_ready}
use Rattle.readytasks.proofs.Following.{one_kept, others_at_commit}
use Rattle.readytasks.proofs.Listing.{order_after_set, list_after_set}
use Rattle.readytasks.proofs.tasks.Tasks.note_commit.Goals as goal

pub returns : goal.returns
returns c = record {
  follows = λ p w n result running h kept is of.
      let was = subst (Follows p h) (sym c.self.view_is) kept in
      let t = c.args.task in
      let tasks = c.self.inside.states.items in
      let known : t < length tasks =
      subst (λ (set : TaskSet). t < length set.tasks) (sym c.self.view_is) c.requires.known in
      let at_t = get_or_default tasks t no_task _ (omega arith) ∙ sym c.index_mut.ensures.value in
      let here = subst (TaskFollows (setup_of p t) t h) at_t (was.each t (let n = was.count in omega arith)) in
      one_kept p h _ t tasks (Commit w n result) _ was refl
      (c.ended.ensures.follows (setup_of p t) t w n result running h here is of)
      (λ setup u r ne f. others_at_commit h w n t result running setup u r is of ne f);
}

pub invariant_of-self : goal.invariant_of-self
invariant_of-self c =
    let tasks = c.self.inside.states.items in let list = c.self.inside.ready.items in let t = c.args.task in
    let m = c.self.inside.moment in let s = c.ended.new.self in let is = c.self.invariant in
    let known : t < length tasks =
    subst (λ (set : TaskSet). t < length set.tasks) (sym c.self.view_is) c.requires.known in
    let at_t = get_or_default tasks t no_task _ known ∙ sym c.index_mut.ensures.value in
    list_after_set tasks list list t m s known is.few
    (order_after_set tasks list t s known is.order
    (λ _. (
      ap (λ (k : KeptTask). k.setup) c.ended.ensures.same ∙ ap (λ (k : KeptTask). k.setup) (sym at_t),
      ap (λ (k : KeptTask). k.since) c.ended.ensures.same ∙ ap (λ (k : KeptTask). k.since) (sym at_t),
    )))
    (is.listed t known
    ∙ (ap (λ (k : KeptTask). is_ready k m) at_t ∙ sym (ap (λ (k : KeptTask). is_ready k m) c.ended.ensures.same)))
    (λ u ne. refl) (λ u ul ne. is.listed u ul)
