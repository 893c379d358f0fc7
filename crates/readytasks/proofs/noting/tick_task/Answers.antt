use Rattle.std.proofs.Common.{List, sym, ap, ◌∙◌, subst}
use Rattle.std.proofs.lemmas.List.{get_or_default}
use Rattle.readytasks.specs.TaskSets.{KeptTask, no_task}
use Rattle.readytasks.specs.TaskSetSteps.{is_ready}
use Rattle.readytasks.specs.ReadyLists.{IsOrderOf}
use Rattle.readytasks.proofs.Listing.{order_after_set}
use Rattle.readytasks.proofs.noting.tick_task.Goals as goal

pub relist-requires-clause-order : goal.relist-requires-clause-order
relist-requires-clause-order c =
    let tasks = c.args.states.now.items in let list = c.args.ready.now.items in let t = c.args.task in
    let now = c.args.now in
    let first = get_or_default tasks t no_task _ c.requires.known ∙ sym c.index.ensures in
    let at_t = get_or_default tasks t no_task _ c.requires.known ∙ sym c.index_mut.ensures.value in
    subst (λ (ts : List KeptTask). IsOrderOf ts list) (sym c.deref.ensures.value)
    (order_after_set tasks list t c.tick.new.self c.requires.known c.requires.order
    (λ listed. (
      ap (λ (s : KeptTask). s.setup) c.tick.ensures.same ∙ ap (λ (s : KeptTask). s.setup) (sym at_t),
      c.tick.ensures.stays (c.is_ready-was.ensures.value ∙ (ap (λ (s : KeptTask). is_ready s now) (sym first)
          ∙ (sym c.requires.listed ∙ listed))) ∙ ap (λ (s : KeptTask). s.since) (sym at_t),
    )))
