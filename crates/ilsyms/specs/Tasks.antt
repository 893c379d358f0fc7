-- The tasks of a source program and their program instances (IEC 61131-3, 2.7.2). Without a configuration a text has
-- one cyclic task `main`, started each 100 milliseconds with priority 0, with an instance of each program under the
-- program's name, in order (profile).
use Rattle.std.specs.Prelude.{ℕ, ℤ, pos, List, [], ◌∷◌, map, filter_map, Option, None, option_map, option_and_then}
use Rattle.std.specs.Prelude.{Bool, false, codes, slice_get, unwrap_or, if◌then◌else◌, ◌==◌}
use Rattle.std.specs.Option.{option_map_or}
use Rattle.std.specs.List.{enumerate_from}
use Rattle.ilsource.specs.Configurations.{Configured}
use Rattle.ilsource.specs.Names.{text_of}
use Rattle.ilsource.specs.SourceTrees.{Tree}
use Rattle.ilsource.specs.declared.configuration.InstanceDeclaration.{InstanceDeclaration}
use Rattle.ilsource.specs.declared.configuration.TaskDeclaration.{TaskDeclaration}
use Rattle.ilsource.specs.declared.name.Name.{Name}
use Rattle.ilscope.specs.Configured.{global_number, program_number, task_number}
use Rattle.ilscope.specs.Declarations.{declared_programs, DeclaredProgram}
use Rattle.ilplan.specs.declared.activation.Activation.{Activation}
use Rattle.ilplan.specs.Printed.{printed_name}
use Rattle.ilplan.specs.declared.activation.Activation.TheVariants.{Cyclic, Event}

-- a program under the name of an instance
pub record NamedProgram : Type 0 where
  pub name : Name
  pub program : DeclaredProgram

-- a task: its name as it is printed, what starts it, its priority and its program instances, in declared order
pub record SourceTask : Type 0 where
  pub name : List ℕ
  pub activation : Activation
  pub priority : ℕ
  pub instances : List NamedProgram

-- what starts a task that has no fault: the trigger that SINGLE names, or the clock
abbrev pub activation_of : Tree → TaskDeclaration → Activation
activation_of tree t =
    option_map_or
    (λ trigger. Event (unwrap_or (global_number tree trigger) 0))
    t.single
    (Cyclic (unwrap_or t.interval 0))

-- its priority, which is not negative where the task has no fault
abbrev pub priority_of : ℤ → ℕ
priority_of (pos n) = n
priority_of _ = 0

abbrev pub instance_named : Name → DeclaredProgram → NamedProgram
instance_named name program = record { name = name; program = program }

-- the instance that is declared, of the first program of its program's name
abbrev pub declared_instance : Tree → InstanceDeclaration → Option NamedProgram
declared_instance tree i =
    option_map (instance_named i.name)
    (option_and_then (slice_get (declared_programs tree)) (program_number tree i.program))

-- it is one of the task with this number
abbrev pub is_in : Tree → ℕ → InstanceDeclaration → Bool
is_in tree task i = option_map_or (λ number. number == task) (option_and_then (task_number tree) i.task) false

abbrev pub instance_in : Tree → ℕ → InstanceDeclaration → Option NamedProgram
instance_in tree task i = if is_in tree task i then declared_instance tree i else None

abbrev pub instances_in : Tree → List InstanceDeclaration → ℕ → List NamedProgram
instances_in tree instances task = filter_map (instance_in tree task) instances

abbrev pub declared_task : Tree → Configured → ℕ × TaskDeclaration → SourceTask
declared_task tree c numbered =
    record {
      name = printed_name (text_of tree.text numbered.1.name);
      activation = activation_of tree numbered.1;
      priority = priority_of numbered.1.priority;
      instances = instances_in tree c.instances numbered.0;
    }

abbrev pub main_task : Tree → SourceTask
main_task tree =
    record {
      name = codes "main";
      activation = Cyclic 100;
      priority = 0;
      instances = map (λ p. instance_named p.program.name p) (declared_programs tree);
    }

abbrev pub tasks_of : Tree → List SourceTask
tasks_of tree =
    option_map_or (λ c. map (declared_task tree c) (enumerate_from 0 c.tasks)) tree.configuration (main_task tree ∷ [])
