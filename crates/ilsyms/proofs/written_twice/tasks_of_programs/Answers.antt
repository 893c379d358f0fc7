use Rattle.std.proofs.Common.{◌≡◌, ◌<◌, ◌+◌, ℕ, List, length, map, sym, ap, ◌∙◌, subst, refl, arith}
use Rattle.std.specs.Prelude.{All, Some, option_map, slice_get}
use Rattle.ildeclared.proofs.Least.{got_at}
use Rattle.ilscope.specs.Declarations.{declared_programs}
use Rattle.ilsyms.specs.TaskSetSteps.{AreSetsOf, with_tasks}
use Rattle.ilsyms.specs.WrittenTwiceSteps.{HasInstance}
use Rattle.ilsyms.specs.declared.task_sets.TaskSet.{TaskSet}
use Rattle.ilsyms.specs.declared.task_sets.TaskSet.TheVariants.{One}
use Rattle.ilsyms.specs.declared.tasks.TaskInstance.{TaskInstance}
use Rattle.ilsyms.proofs.WrittenTwiceTasks.{empty_are, instances_from, instances_to, known_at}
use Rattle.ilsyms.proofs.Lists.{written_back}
use Rattle.ilsyms.proofs.TaskSets.{sets_more}
use Rattle.ilsyms.proofs.written_twice.tasks_of_programs.Goals as goal

pub loop-number-init : goal.loop-number-init
loop-number-init c =
    record {
      count = c.in_ok-sets.ensures.count ∙ ap (λ ps. length ps) c.programs.ensures.value;
      sets =
          empty_are (HasInstance c.args.tasks.now 0) c.in_ok-sets.sets.items c.in_ok-sets.ensures.empty
          (λ number task h. let low = h.0 in absurd (omega (arith, low)));
    }

pub add_tasks-requires : goal.add_tasks-requires
add_tasks-requires c =
    let tasks = c.args.tasks.now in
    let here : slice_get tasks c.loop-number.number ≡ Some c.index-tasks-number.result =
    got_at tasks c.loop-number.number c.index-tasks-number.result c.loop-number-test.true c.index-tasks-number.is in
    let numbers : c.deref.result.now ≡ map (λ i. i.program) c.index-tasks-number.result =
    c.deref.ensures.value ∙ c.in_ok-programs.ensures
    ∙ ap (λ (is : List TaskInstance). map (λ i. i.program) is) c.as_slice.ensures.value in
    let count : length (declared_programs c.args.scope.now.tree) ≡ length c.deref_mut.result.now =
    sym (ap (λ (ss : List TaskSet). length ss) c.deref_mut.ensures.value ∙ c.loop-number.invariant.count) in
    subst (λ (ns : List ℕ). All (λ n. n < length c.deref_mut.result.now) ns) (sym numbers)
    (subst (λ (bound : ℕ). All (λ n. n < bound) (map (λ i. i.program) c.index-tasks-number.result)) count
    (known_at c.args.scope.now.tree tasks c.requires c.loop-number.number c.index-tasks-number.result here))

pub loop-number-preserved : goal.loop-number-preserved
loop-number-preserved c =
    let tasks = c.args.tasks.now in
    let number = c.loop-number.number in
    let its = c.index-tasks-number.result in
    let here : slice_get tasks number ≡ Some its =
    got_at tasks number its c.loop-number-test.true c.index-tasks-number.is in
    let numbers : c.deref.result.now ≡ map (λ i. i.program) its =
    c.deref.ensures.value ∙ c.in_ok-programs.ensures
    ∙ ap (λ (is : List TaskInstance). map (λ i. i.program) is) c.as_slice.ensures.value in
    let many = ap (λ (ss : List TaskSet). length ss) c.deref_mut.ensures.value in
    let same = c.add_tasks.auto.sets ∙ many in
    let whole = written_back c.loop-number.sets.items c.add_tasks.new.sets c.loop-number.sets.len
    (sym c.deref_mut.ensures.len ∙ many) same in
    record {
      count = ap (λ (ss : List TaskSet). length ss) whole ∙ same ∙ c.loop-number.invariant.count;
      sets =
          subst (λ (ss : List TaskSet). AreSetsOf (HasInstance tasks (number + 1)) ss) (sym whole)
          (sets_more (HasInstance tasks number) (HasInstance tasks (number + 1)) (λ task. task ≡ number)
          (map (λ i. i.program) its) (One number) c.loop-number.sets.items c.add_tasks.new.sets
          (refl, λ other e. e) c.loop-number.invariant.sets
          (λ k. c.add_tasks.ensures k
          ∙ (λ i. option_map (with_tasks (numbers i) (One number) k) (slice_get (c.deref_mut.ensures.value i) k)))
          (instances_to tasks number its here) (instances_from tasks number its here));
    }
