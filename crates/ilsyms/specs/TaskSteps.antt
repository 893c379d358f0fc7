-- The program instances of tasks as code keeps them: by the numbers of their programs.
use Rattle.std.specs.Prelude.{◌≡◌, ℕ, List, map, filter_map, Option, Some, None, option_map, option_and_then, slice_get}
use Rattle.std.specs.Prelude.{◌==◌, if◌then◌else◌}
use Rattle.ilsource.specs.declared.configuration.InstanceDeclaration.{InstanceDeclaration}
use Rattle.ilsource.specs.SourceTrees.{Tree}
use Rattle.ilscope.specs.Configured.{program_number, task_number}
use Rattle.ilscope.specs.Declarations.{declared_programs}
use Rattle.ilplan.specs.declared.activation.Activation.{Activation}
use Rattle.ilsyms.specs.declared.tasks.Assigned.{Assigned}
use Rattle.ilsyms.specs.declared.tasks.TaskInstance.{TaskInstance}
use Rattle.ilsyms.specs.Tasks.{NamedProgram, SourceTask, instance_named, tasks_of}

-- the instance of the program with this number
abbrev pub instance_at : Tree → TaskInstance → Option NamedProgram
instance_at tree i = option_map (instance_named i.name) (slice_get (declared_programs tree) i.program)

-- they are these instances
abbrev pub AreInstances : Tree → List TaskInstance → List NamedProgram → Type 0
AreInstances tree given instances = map (instance_at tree) given ≡ map Some instances

-- the instances of those programs that are there
abbrev pub instances_of : Tree → List TaskInstance → List NamedProgram
instances_of tree given = filter_map (instance_at tree) given

-- each program is there
abbrev pub AreThere : Tree → List TaskInstance → Type 0
AreThere tree given = AreInstances tree given (instances_of tree given)

-- they are those of each task
abbrev pub AreInstancesOfTasks : Tree → List (List TaskInstance) → Type 0
AreInstancesOfTasks tree given = map (map (instance_at tree)) given ≡ map (λ t. map Some t.instances) (tasks_of tree)

-- they are those of the task with this number
abbrev pub AreInstancesOfTask : Tree → ℕ → List TaskInstance → Type 0
AreInstancesOfTask tree number given =
    option_map (λ t. map Some t.instances) (slice_get (tasks_of tree) number) ≡ Some (map (instance_at tree) given)

-- ---- how they are given to tasks

abbrev pub numbered : InstanceDeclaration → ℕ → ℕ → Assigned
numbered i task program = record { task = task; instance = record { name = i.name; program = program } }

-- the instance that is declared with the numbers of its task and its program, where both are there
abbrev pub assigned : Tree → InstanceDeclaration → Option Assigned
assigned tree i =
    option_and_then
    (λ task. option_map (numbered i task) (program_number tree i.program))
    (option_and_then (task_number tree) i.task)

-- the instance, where it is one of the task with this number
abbrev pub given_to : ℕ → Assigned → Option TaskInstance
given_to task a = if a.task == task then Some a.instance else None

-- the task of these parts
abbrev pub task_with : List ℕ → Activation → ℕ → List NamedProgram → SourceTask
task_with name activation priority instances =
    record { name = name; activation = activation; priority = priority; instances = instances }
