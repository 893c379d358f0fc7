-- The tasks of a plan: each is one of the text's, with the instances that are given for it.
use Rattle.std.proofs.Common.{◌≡◌, ℕ, zero, suc, ◌+◌, ◌<◌, List, [], ◌∷◌, ◌++◌, map, take, length, refl, sym, ap}
use Rattle.std.proofs.Common.{◌∙◌, arith}
use Rattle.std.specs.Prelude.{Option, Some, None, slice_get, option_map, IfOk, Result, Ok, Err}
use Rattle.std.specs.List.{enumerate_from}
use Rattle.std.specs.Option.{option_map_or}
use Rattle.std.proofs.Math.ListN.{length-map}
use Rattle.std.proofs.lemmas.List.{map-append}
use Rattle.std.proofs.lemmas.Option.{slice_get-map, get_or_from_slice_get}
use Rattle.ilsource.specs.Configurations.{Configured}
use Rattle.ilsource.specs.declared.configuration.TaskDeclaration.{TaskDeclaration}
use Rattle.ilsource.specs.SourceTrees.{Tree}
use Rattle.ildeclared.proofs.Least.{take_more}
use Rattle.ilplan.specs.Plans.{PlannedTask}
use Rattle.ilsyms.specs.declared.tasks.TaskInstance.{TaskInstance}
use Rattle.ilsyms.specs.TaskSteps.{AreInstances, AreInstancesOfTask, AreInstancesOfTasks, AreThere, instance_at}
use Rattle.ilsyms.specs.TaskSteps.{instances_of}
use Rattle.ilsyms.specs.Resolved.{planned_task}
use Rattle.ilsyms.specs.Tasks.{NamedProgram, SourceTask, declared_task, main_task, tasks_of}
use Rattle.ilsyms.proofs.Lists.{below_end}
use Rattle.ilsyms.proofs.TaskCases.{task_at}
use Rattle.ilsyms.proofs.TaskInstances.{instances_are, there}

module _ (tree : Tree) (number : ℕ) (given : List TaskInstance) (are : AreInstancesOfTask tree number given) where
  -- the task of the number is there
  pub the_task : (t : SourceTask) × (slice_get (tasks_of tree) number ≡ Some t)
  the_task = by (slice_get (tasks_of tree) number) are
    where
      by : (o : Option SourceTask) → option_map (λ t. map Some t.instances) o ≡ Some (map (instance_at tree) given)
          → (t : SourceTask) × (o ≡ Some t)
      by None e = absurd cc
      by (Some t) e = (t, refl)

  module _ (t : SourceTask) (at : slice_get (tasks_of tree) number ≡ Some t) where
    stand : AreInstances tree given t.instances
    stand =
        let e : Some (map Some t.instances) ≡ Some (map (instance_at tree) given) =
        sym (ap (option_map (λ (s : SourceTask). map Some s.instances)) at) ∙ are
        in
        let same : map Some t.instances ≡ map (instance_at tree) given = cc in
        sym same

    pub they_are : instances_of tree given ≡ t.instances
    they_are = instances_are tree given t.instances stand

    pub they_are_there : AreThere tree given
    they_are_there = there tree given t.instances stand

  module _ (c : Configured) (configured : tree.configuration ≡ Some c) where
    pub task_declared : slice_get (tasks_of tree) number
        ≡ option_map (λ d. declared_task tree c (number, d)) (slice_get c.tasks number)
    task_declared =
        ap
        (λ o. slice_get
        (option_map_or (λ (x : Configured). map (declared_task tree x) (enumerate_from 0 x.tasks)) o
        (main_task tree ∷ []))
        number)
        configured
        ∙ task_at tree c number

    pub task_below : number < length c.tasks
    task_below = by (slice_get c.tasks number) refl (sym task_declared ∙ the_task.1)
      where
        by : (o : Option TaskDeclaration) → slice_get c.tasks number ≡ o
            → option_map (λ d. declared_task tree c (number, d)) o ≡ Some the_task.0 → number < length c.tasks
        by None e s = absurd cc
        by (Some d) e s = below_end c.tasks number d e

  pub main_there : tree.configuration ≡ None → slice_get (tasks_of tree) number ≡ Some (main_task tree)
  main_there none = by number refl (sym all ∙ the_task.1) ∙ refl
    where
      all : slice_get (tasks_of tree) number ≡ slice_get (main_task tree ∷ []) number
      all =
          ap
          (λ o. slice_get
          (option_map_or (λ (x : Configured). map (declared_task tree x) (enumerate_from 0 x.tasks)) o
          (main_task tree ∷ []))
          number)
          none

      by : (n : ℕ) → number ≡ n → slice_get (main_task tree ∷ []) n ≡ Some the_task.0
          → slice_get (tasks_of tree) number ≡ Some (main_task tree)
      by zero same e = all ∙ ap (λ m. slice_get (main_task tree ∷ []) m) same
      by (suc n) same e = absurd cc

-- what is given for all tasks is given for each
pub of_task : (tree : Tree) (given : List (List TaskInstance)) (number : ℕ) (instances : List TaskInstance)
    → AreInstancesOfTasks tree given → slice_get given number ≡ Some instances
    → AreInstancesOfTask tree number instances
of_task tree given number instances are at =
    sym (slice_get-map (λ t. map Some t.instances) (tasks_of tree) number)
    ∙ ap (λ (xs : List (List (Option NamedProgram))). slice_get xs number) (sym are)
    ∙ slice_get-map (map (instance_at tree)) given number
    ∙ ap (option_map (map (instance_at tree))) at

-- what is planned of the first so many, and of one more
pub one_planned : {X Y : Type 0} (plan : X → Y) (xs : List X) (number : ℕ) (planned : List Y) (one : Y)
    → planned ≡ map plan (take number xs) → option_map plan (slice_get xs number) ≡ Some one
    → planned ++ one ∷ [] ≡ map plan (take (number + 1) xs)
one_planned {X} plan xs number planned one so_far e = by (slice_get xs number) refl e
  where
    by : (o : Option X) → slice_get xs number ≡ o → option_map plan o ≡ Some one
        → planned ++ one ∷ [] ≡ map plan (take (number + 1) xs)
    by None at e = absurd cc
    by (Some x) at e =
        let same : plan x ≡ one = cc in
        let below = below_end xs number x at in
        (λ j. so_far j ++ sym same j ∷ [])
        ∙ sym (map-append plan (take number xs) (x ∷ []))
        ∙ ap (map plan) (sym (take_more xs number x below (sym (get_or_from_slice_get xs number x x at))))

pub as_many_tasks : (tree : Tree) (given : List (List TaskInstance)) → AreInstancesOfTasks tree given
    → length given ≡ length (tasks_of tree)
as_many_tasks tree given are =
    let e = ap (λ (xs : List (List (Option NamedProgram))). length xs) are in
    let one = length-map given (map (instance_at tree)) in
    let other = length-map (tasks_of tree) (λ t. map Some t.instances) in
    omega (arith, e, one, other)

-- a result that has one property has another
pub if_ok : {A E : Type 0} (r : Result A E) (P Q : A → Type 0) → ((a : A) → P a → Q a) → IfOk r P → IfOk r Q
if_ok (Ok a) P Q f h = f a h
if_ok (Err e) P Q f h = tt

-- the task that was planned is that of the number
pub planned_at : (tree : Tree) (number : ℕ) (t : SourceTask) (task : PlannedTask)
    → slice_get (tasks_of tree) number ≡ Some t → task ≡ planned_task tree t
    → option_map (planned_task tree) (slice_get (tasks_of tree) number) ≡ Some task
planned_at tree number t task at e = ap (option_map (planned_task tree)) at ∙ ap (λ p. Some p) (sym e)
