use Rattle.std.proofs.Common.{◌≡◌, ◌∙◌, [], ◌∷◌, List, ap, sym, subst}
use Rattle.std.specs.List.{AllByRecursion}
use Rattle.std.specs.Prelude.{Some, slice_get}
use Rattle.std.proofs.lemmas.List.{take_all}
use Rattle.std.proofs.lemmas.List.Elements.{All-from_recursion}
use Rattle.ildeclared.proofs.Least.{got_at}
use Rattle.ilsyms.specs.TaskPartSteps.{AreParts}
use Rattle.ilsyms.specs.TaskSteps.{AreInstancesOfTasks, AreThere}
use Rattle.ilsyms.specs.declared.tasks.TaskInstance.{TaskInstance}
use Rattle.ilsyms.proofs.Named.{both}
use Rattle.ilsyms.proofs.TaskInstances.{there}
use Rattle.ilsyms.proofs.TaskPartLists.{gathered, instances_in}
use Rattle.ilsyms.proofs.WrittenTwiceTasks.{task_of_given}
use Rattle.ilsyms.proofs.task_parts.parts_of_tasks.Goals as goal

pub of-requires-clause-there : goal.of-requires-clause-there
of-requires-clause-there c =
    let tree = c.args.scope.now.tree in
    let tasks = c.args.tasks.now in
    let i = c.loop-instances.instances-index in
    let given = c.instances-item.result in
    let here : slice_get tasks i ≡ Some given = got_at tasks i given c.loop-instances-test.true c.instances-item.is in
    let found = task_of_given tree tasks c.requires.tasks i given here in
    subst (λ (is : List TaskInstance). AreThere tree is) (sym c.as_slice.ensures.value)
    (there tree given found.0.instances found.2)

pub loop-instances-preserved : goal.loop-instances-preserved
loop-instances-preserved c =
    let keeps = AreParts c.args.scope.now.tree in
    let before = c.loop-instances.all.items in
    let one = c.in_ok-parts.parts in
    let pushed = c.in_ok-push.ensures.items in
    record {
      tasks =
          ap instances_in pushed
          ∙ gathered c.args.tasks.now c.loop-instances.instances-index c.instances-item.result before one
          c.loop-instances-test.true c.instances-item.is c.loop-instances.invariant.tasks
          (c.in_ok-parts.ensures.instances ∙ c.as_slice.ensures.value);
      each =
          subst (AllByRecursion keeps) (sym pushed)
          (both keeps before (one ∷ []) c.loop-instances.invariant.each (c.in_ok-parts.ensures.parts, tt));
    }

pub returns : goal.returns
returns c =
    let tree = c.args.scope.now.tree in
    let are = c.loop-instances.invariant in
    let whole = take_all c.loop-instances.instances-index c.args.tasks.now c.loop-instances-test.false in
    record {
      tasks = subst (AreInstancesOfTasks tree) (sym (are.tasks ∙ whole)) c.requires.tasks;
      each = All-from_recursion (AreParts tree) c.loop-instances.all.items are.each;
    }
