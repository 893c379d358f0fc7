-- What each task has and uses, as it is gathered for its limits and for its plan.
use Rattle.std.specs.Prelude.{◌≡◌, ◌+◌, ◌++◌, List, All, flat_map, map, take}
use Rattle.limits.specs.Limits.{most_blocks, most_slots}
use Rattle.ilsource.specs.SourceTrees.{Tree}
use Rattle.ilscope.specs.Declarations.{declared_functions}
use Rattle.ilscope.specs.Uses.{uses_of}
use Rattle.ilsyms.specs.CountingSteps.{AreCounted}
use Rattle.ilsyms.specs.FunctionSteps.{are_used, marked, needs_of}
use Rattle.ilsyms.specs.TaskSteps.{AreInstancesOfTasks, AreThere, instances_of}
use Rattle.ilsyms.specs.Tasks.{NamedProgram}
use Rattle.ilsyms.specs.Variables.{blocks_of, lines_of, slots_of}
use Rattle.ilsyms.specs.declared.task_parts.TaskParts.{TaskParts}

-- what has these parts is a task with these instances: of its slots and of its block instances are no more given than
-- one past the limit, and its constants are those of its lines and of the functions that it uses
pub record AreOfInstances (tree : Tree) (parts : TaskParts) (instances : List NamedProgram) : Type 0 where
  pub used : parts.used.items ≡ are_used tree instances
  pub slots : parts.slots.items ≡ take (most_slots + 1) (slots_of tree instances)
  pub blocks : parts.blocks.items ≡ take (most_blocks + 1) (blocks_of instances)
  pub counted : AreCounted
      (uses_of (lines_of instances)
      ++ flat_map (λ one. one.uses) (marked (are_used tree instances) (map (needs_of tree) (declared_functions tree))))
      parts.counted.constants parts.counted.excess

-- each program is there, and the parts are those of the instances
pub record AreParts (tree : Tree) (parts : TaskParts) : Type 0 where
  pub there : AreThere tree parts.instances.now
  pub have : AreOfInstances tree parts (instances_of tree parts.instances.now)

-- they are those of each task
pub record ArePartsOfTasks (tree : Tree) (parts : List TaskParts) : Type 0 where
  pub tasks : AreInstancesOfTasks tree (map (λ p. p.instances.now) parts)
  pub each : All (AreParts tree) parts
