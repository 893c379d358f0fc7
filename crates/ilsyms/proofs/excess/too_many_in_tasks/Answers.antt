use Rattle.std.proofs.Common.{◌≡◌, List, sym, ◌∙◌, subst, arith}
use Rattle.std.proofs.lemmas.List.{take_all}
use Rattle.std.proofs.lemmas.Option.{get_or_from_slice_get}
use Rattle.ildeclared.specs.Faults.{IsNextOf, OfCause, SomeOf}
use Rattle.ildeclared.specs.declared.fault.NameCause.TheVariants.{TooMany}
use Rattle.ildeclared.proofs.Least.{got_below, next_of_more, of_one_cause}
use Rattle.ilsyms.specs.Faults.{IsTooManyIn}
use Rattle.ilsyms.specs.Tasks.{NamedProgram, SourceTask, tasks_of}
use Rattle.ilsyms.proofs.PlanTasks.{the_task, they_are}
use Rattle.ilsyms.proofs.TaskPartLists.{as_many_parts, instances_at, parts_at}
use Rattle.ilsyms.proofs.excess.too_many_in_tasks.Goals as goal

pub too_many_in-requires : goal.too_many_in-requires
too_many_in-requires c = record {
  words = c.deref.ensures.value ∙ c.in_ok-words.ensures;
  needs = c.requires.needs;
  task = parts_at c.args.scope.now.tree c.args.tasks.now c.requires.tasks c.loop-task.task-index c.task-item.result
      c.loop-task-test.true c.task-item.is;
}

pub loop-task-preserved : goal.loop-task-preserved
loop-task-preserved c =
    let tree = c.args.scope.now.tree in
    let i = c.loop-task.task-index in
    let given = c.task-item.result.instances.now in
    let are = instances_at tree c.args.tasks.now c.requires.tasks i c.task-item.result c.loop-task-test.true
    c.task-item.is in
    let found = the_task tree i given are in
    rw c.lesser_of-least.ensures
    (next_of_more c.args.after (λ (t : SourceTask). OfCause TooMany (λ at. IsTooManyIn tree at t.instances))
    (tasks_of tree) i
    found.0 c.loop-task.least c.too_many_in.result (got_below (tasks_of tree) i found.0 found.1)
    (sym (get_or_from_slice_get (tasks_of tree) i found.0 found.0 found.1)) c.loop-task.invariant
    (subst (λ (is : List NamedProgram). IsNextOf c.args.after (OfCause TooMany (λ at. IsTooManyIn tree at is))
    c.too_many_in.result)
    (they_are tree i given are found.0 found.1) c.too_many_in.ensures))

pub returns : goal.returns
returns c =
    let tree = c.args.scope.now.tree in
    let many = as_many_parts tree c.args.tasks.now c.requires.tasks in
    let last = c.loop-task-test.false in
    of_one_cause c.args.after TooMany (λ (t : SourceTask) place. IsTooManyIn tree place t.instances) (tasks_of tree)
    c.loop-task.least
    (subst (λ (ts : List SourceTask). IsNextOf c.args.after (λ place cause. SomeOf
    (λ t. OfCause TooMany (λ at. IsTooManyIn tree at t.instances) place cause) ts) c.loop-task.least)
    (take_all c.loop-task.task-index (tasks_of tree) (omega (arith, many, last))) c.loop-task.invariant)
