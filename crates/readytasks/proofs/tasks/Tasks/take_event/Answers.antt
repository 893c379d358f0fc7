use Rattle.std.proofs.Common.{◌≡◌, ◌<◌, true, false, List, length, set, get_or-set_same, length-set, refl, sym, ap, ◌∙◌}
use Rattle.std.proofs.Common.{subst, arith}
use Rattle.std.proofs.lemmas.List.{get_or_default}
use Rattle.plantevents.specs.declared.event.Event.TheVariants.{Take}
use Rattle.readytasks.specs.TaskSets.{TaskSet, KeptTask, Follows, TaskFollows, setup_of, no_task}
use Rattle.readytasks.specs.TaskSetSteps.{is_ready, rank_at}
use Rattle.readytasks.specs.ReadyLists.{IsOrderOf}
use Rattle.readytasks.proofs.Following.{one_kept, others_at_take}
use Rattle.readytasks.proofs.Listing.{order_after_set, list_after_set}
use Rattle.readytasks.proofs.tasks.Tasks.take_event.Goals as goal

pub returns-clause-follows : goal.returns-clause-follows
returns-clause-follows c p w s h kept place =
    let was = subst (Follows p h) (sym c.self.view_is) kept in
    let t = c.args.task in
    let tasks = c.self.inside.states.items in
    let known : t < length tasks =
    subst (λ (set : TaskSet). t < length set.tasks) (sym c.self.view_is) c.requires.known in
    let at_t = get_or_default tasks t no_task _ (omega arith) ∙ sym c.index_mut.ensures.value in
    let here = subst (TaskFollows (setup_of p t) t h) at_t (was.each t (let n = was.count in omega arith)) in
    one_kept p h _ t tasks (Take w t s) _ was refl
    (c.took-event.ensures.follows (setup_of p t) t w s h here was.moment place) (others_at_take h w t s)

pub relist-requires-clause-order : goal.relist-requires-clause-order
relist-requires-clause-order c =
    let tasks = c.self.inside.states.items in let t = c.args.task in let left = c.leave.new.ready.items in
    let is = c.self.invariant in
    let known : t < length tasks =
    subst (λ (set : TaskSet). t < length set.tasks) (sym c.self.view_is) c.requires.known in
    let gone = c.leave.ensures.left (rank_at tasks) (length tasks) is.order in
    subst (λ (ts : List KeptTask). IsOrderOf ts left) (sym c.deref.ensures.value)
    (order_after_set tasks left t c.took-event.new.self known
    (c.leave.ensures.order (rank_at tasks) (length tasks) is.order)
    (λ listed. let no : true ≡ false = sym listed ∙ gone in absurd (cc)))

pub relist-requires-clause-was : goal.relist-requires-clause-was
relist-requires-clause-was c =
    let tasks = c.self.inside.states.items in
    c.leave.ensures.left (rank_at tasks) (length tasks) c.self.invariant.order

pub invariant_of-self : goal.invariant_of-self
invariant_of-self c =
    let tasks = c.self.inside.states.items in let list = c.self.inside.ready.items in let t = c.args.task in
    let m = c.self.inside.moment in let s = c.took-event.new.self in let after = c.relist.new.ready.items in
    let is = c.self.invariant in
    let known : t < length tasks =
    subst (λ (set : TaskSet). t < length set.tasks) (sym c.self.view_is) c.requires.known in
    let long = length-set tasks t s in
    let at_t : s ≡ c.index.result.now =
    sym (get_or-set_same tasks t s no_task known)
    ∙ (get_or_default (set tasks t s) t no_task _ (omega arith) ∙ sym c.index.ensures) in
    list_after_set tasks list after t m s known is.few
    (subst (λ (ts : List KeptTask). IsOrderOf ts after) c.deref.ensures.value c.relist.ensures.order)
    (c.relist.ensures.listed ∙ (c.is_ready-is.ensures.value ∙ ap (λ (k : KeptTask). is_ready k m) (sym at_t)))
    (λ u ne. c.relist.ensures.others u ne ∙ c.leave.ensures.others u ne) (λ u ul ne. is.listed u ul)
