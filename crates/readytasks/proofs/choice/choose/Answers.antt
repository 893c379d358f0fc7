use Rattle.std.proofs.Common.{refl, sym, ap, ◌∙◌, arith}
use Rattle.std.proofs.lemmas.List.{get_or_default}
use Rattle.readytasks.specs.TaskSets.{KeptTask, no_task}
use Rattle.readytasks.proofs.Choosing.{first_chosen, none_chosen}
use Rattle.readytasks.proofs.choice.choose.Goals as goal

pub returns-then-not-is_scanned : goal.returns-then-not-is_scanned
returns-then-not-is_scanned c = record {
  first = λ moment is.
      let k = c.loop-task.task-index in
      let known = is.order.known k 0 (omega arith) in
      let at_t = get_or_default c.args.states.now _ no_task _ known ∙ sym c.index-states-task.is in
      first_chosen c.args.states.now moment c.args.ready.now is _ k (omega arith) refl
      (ap (λ (s : KeptTask). s.is_scanned) at_t ∙ (sym c.is_scanned.ensures.value ∙ c.if-not-is_scanned.true))
      c.loop-task.invariant;
}

pub returns : goal.returns
returns c = record {
  first = λ moment is.
      none_chosen c.args.states.now moment c.args.ready.now is (λ j lt. c.loop-task.invariant j (omega arith));
}
