use Rattle.std.proofs.Common.{◌≡◌, Bool, true, false, ◌||◌, List, refl, sym, ap, ◌∙◌, subst}
use Rattle.std.proofs.lemmas.List.{get_or_default}
use Rattle.readytasks.specs.TaskSets.{KeptTask, task_at, no_task}
use Rattle.readytasks.specs.TaskSetSteps.{is_ready}
use Rattle.readytasks.specs.ReadyLists.{IsOrderOf}
use Rattle.readytasks.proofs.Listing.{order_after_set, list_after_set}
use Rattle.readytasks.proofs.noting.heard_task.Goals as goal

or_none : (x y : Bool) → y ≡ false → (x || y) ≡ x
or_none true y is = refl
or_none false y is = is

pub relist-requires-clause-order : goal.relist-requires-clause-order
relist-requires-clause-order c =
    let tasks = c.args.states.now.items in let list = c.args.ready.now.items in let t = c.args.task in
    let m = c.requires.ready.0 in let is = c.requires.ready.1 in
    let at_t = get_or_default tasks t no_task _ c.requires.known ∙ sym c.index_mut.ensures.value in
    let unready : is_ready (task_at tasks t) m ≡ false =
    subst (λ (s : KeptTask). is_ready s m ≡ false) (sym at_t) (c.heard-begins.ensures.begins m c.if-begins.true) in
    subst (λ (ts : List KeptTask). IsOrderOf ts list) (sym c.deref.ensures.value)
    (order_after_set tasks list t c.heard-begins.new.self c.requires.known is.order
    (λ listed. let no : true ≡ false = sym listed ∙ (is.listed t c.requires.known ∙ unready) in absurd (cc)))

pub returns-else-begins-clause-ready : goal.returns-else-begins-clause-ready
returns-else-begins-clause-ready c m is =
    let tasks = c.args.states.now.items in let list = c.args.ready.now.items in let t = c.args.task in
    let s = c.heard-begins.new.self in
    let at_t = get_or_default tasks t no_task _ c.requires.known ∙ sym c.index_mut.ensures.value in
    let heard = c.heard-begins.ensures in
    list_after_set tasks list list t m s c.requires.known is.few
    (order_after_set tasks list t s c.requires.known is.order
    (λ _. (
      heard.setup ∙ ap (λ (k : KeptTask). k.setup) (sym at_t),
      heard.stays c.if-begins.false ∙ ap (λ (k : KeptTask). k.since) (sym at_t),
    )))
    (is.listed t c.requires.known
    ∙ (ap (λ (k : KeptTask). is_ready k m) at_t ∙ sym (heard.ready m ∙ or_none _ _ c.if-begins.false)))
    (λ u ne. refl) (λ u ul ne. is.listed u ul)
