-- The parts of all tasks, one after another: those of each are those of the task with its number.
use Rattle.std.proofs.Common.{◌≡◌, ℕ, ◌+◌, ◌<◌, ◌++◌, [], ◌∷◌, List, get_or, length, map, take, sym, ap, ◌∙◌, subst}
use Rattle.std.specs.Prelude.{Some, flat_map, option_map, slice_get}
use Rattle.std.proofs.Math.ListN.{length-map}
use Rattle.std.proofs.lemmas.List.{map-append}
use Rattle.std.proofs.lemmas.Option.{slice_get-map}
use Rattle.ilsource.specs.SourceTrees.{Tree}
use Rattle.ildeclared.proofs.Least.{got_at, take_more}
use Rattle.ilplan.specs.Constants.{each_once}
use Rattle.ilscope.specs.Uses.{uses_of}
use Rattle.ilsyms.specs.Faults.{all_uses}
use Rattle.ilsyms.specs.FunctionSteps.{Needs}
use Rattle.ilsyms.specs.Resolved.{constants_of}
use Rattle.ilsyms.specs.TaskPartSteps.{AreOfInstances, AreParts, ArePartsOfTasks}
use Rattle.ilsyms.specs.TaskSteps.{AreInstancesOfTask}
use Rattle.ilsyms.specs.Tasks.{NamedProgram, tasks_of}
use Rattle.ilsyms.specs.Variables.{lines_of}
use Rattle.ilsyms.specs.declared.task_parts.TaskParts.{TaskParts}
use Rattle.ilsyms.specs.declared.tasks.TaskInstance.{TaskInstance}
use Rattle.ilsyms.proofs.MarkedFunctions.{used_needs, uses_used}
use Rattle.ilsyms.proofs.PlanLimits.{constants_are}
use Rattle.ilsyms.proofs.PlanTasks.{as_many_tasks, of_task}
use Rattle.ilsyms.proofs.UsesAlike.{constants_alike}

abbrev pub instances_in : List TaskParts → List (List TaskInstance)
instances_in parts = map (λ p. p.instances.now) parts

-- the instances of what was gathered, and of one more
pub gathered : (tasks : List (List TaskInstance)) (number : ℕ) (given : List TaskInstance) (parts : List TaskParts)
    (one : TaskParts) → number < length tasks → given ≡ get_or tasks number given
    → instances_in parts ≡ take number tasks → one.instances.now ≡ given
    → instances_in (parts ++ one ∷ []) ≡ take (number + 1) tasks
gathered tasks number given parts one below is so_far same =
    map-append (λ (p : TaskParts). p.instances.now) parts (one ∷ [])
    ∙ (λ i. so_far i ++ same i ∷ [])
    ∙ sym (take_more tasks number given below is)

module _ (tree : Tree) (parts : List TaskParts) (are : ArePartsOfTasks tree parts) where
  pub as_many_parts : length parts ≡ length (tasks_of tree)
  as_many_parts =
      sym (length-map parts (λ (p : TaskParts). p.instances.now))
      ∙ as_many_tasks tree (instances_in parts) are.tasks

  module _ (number : ℕ) (one : TaskParts) (below : number < length parts) (is : one ≡ get_or parts number one) where
    pub given_at : slice_get (instances_in parts) number ≡ Some one.instances.now
    given_at =
        slice_get-map (λ (p : TaskParts). p.instances.now) parts number
        ∙ ap (option_map (λ (p : TaskParts). p.instances.now)) (got_at parts number one below is)

    pub instances_at : AreInstancesOfTask tree number one.instances.now
    instances_at = of_task tree (instances_in parts) number one.instances.now are.tasks given_at

    pub parts_at : AreParts tree one
    parts_at = subst (AreParts tree) (sym is) (are.each number one below)

-- the constants that were counted are those of the plan
pub constants_planned : (tree : Tree) (parts : TaskParts) (instances : List NamedProgram)
    → AreOfInstances tree parts instances → parts.counted.constants ≡ constants_of tree instances
constants_planned tree parts is have =
    let counted = uses_of (lines_of is) ++ flat_map (λ (one : Needs). one.uses) (used_needs tree is) in
    have.counted.different
    ∙ ap each_once (constants_alike counted (all_uses tree is) (uses_used tree is))
    ∙ constants_are tree is
