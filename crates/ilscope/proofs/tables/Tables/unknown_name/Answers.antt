use Rattle.std.proofs.Common.{◌≡◌, ◌∙◌, ℕ, List, subst, ◌⊎◌}
use Rattle.std.specs.Prelude.{Option}
use Rattle.ilsource.specs.SourceTrees.{Tree}
use Rattle.ilsource.specs.declared.configuration.InstanceDeclaration.{InstanceDeclaration}
use Rattle.ilsource.specs.declared.configuration.TaskDeclaration.{TaskDeclaration}
use Rattle.ilsource.specs.declared.name.Name.{Name}
use Rattle.ildeclared.specs.Faults.{IsNextOf, OfCause, SomeOf}
use Rattle.ildeclared.specs.Kept.{kept_under}
use Rattle.ildeclared.specs.Order.{lesser_of_two}
use Rattle.ildeclared.specs.declared.fault.NameCause.TheVariants.{Unknown}
use Rattle.ildeclared.specs.declared.global.DeclaredGlobal.{DeclaredGlobal}
use Rattle.ildeclared.proofs.Least.{either_next}
use Rattle.ilscope.specs.Configured.{global_number, globals_of, instance_declarations, program_number}
use Rattle.ilscope.specs.Configured.{task_declarations, task_number}
use Rattle.ilscope.specs.Declarations.{DeclaredProgram, declared_programs}
use Rattle.ilscope.specs.Faults.{IsUnknownExternal, IsUnknownExternalIn, IsUnknownName, IsUnknownProgram, IsUnknownTask}
use Rattle.ilscope.specs.Faults.{IsUnknownTaskOf, IsUnknownTrigger, IsUnknownTriggerOf}
use Rattle.ilscope.specs.ScopeSteps.{IsUnknownNamed}
use Rattle.ilscope.proofs.LookedUp.{moved, names_are}
use Rattle.ilscope.proofs.tables.Tables.unknown_name.Goals as goal

pub returns : goal.returns
returns c =
    let inside = c.self.inside in
    let tree : Tree = inside.source.now in
    let lower : List ℕ = c.as_slice-lower.result.now in
    let lower_is = c.as_slice-lower.ensures.value ∙ c.self.invariant.text in
    let external = c.unknown_externals-external.result in
    let trigger = c.unknown_triggers-trigger.result in
    let task = c.unknown_tasks-task.result in
    let program = c.unknown_programs-program.result in
    let globals : kept_under lower inside.global_numbers ≡ global_number tree =
    names_are (λ (g : DeclaredGlobal). g.name) (globals_of tree) tree.text lower inside.global_numbers lower_is
    c.self.invariant.globals_numbered
    in
    let tasks : kept_under lower inside.task_numbers ≡ task_number tree =
    names_are (λ (t : TaskDeclaration). t.name) (task_declarations tree) tree.text lower inside.task_numbers lower_is
    c.self.invariant.tasks_numbered
    in
    let programs : kept_under lower inside.program_numbers ≡ program_number tree =
    names_are (λ (p : DeclaredProgram). p.program.name) (declared_programs tree) tree.text lower inside.program_numbers
    lower_is c.self.invariant.programs_numbered
    in
    let externals : IsNextOf c.args.after (OfCause Unknown (IsUnknownExternal tree)) external =
    moved (λ (n : Name → Option ℕ) (ps : List DeclaredProgram).
    IsNextOf c.args.after (OfCause Unknown (λ place. SomeOf (IsUnknownExternalIn n place) ps)) external)
    (kept_under lower inside.global_numbers) (global_number tree) c.as_slice.result.now (declared_programs tree) globals
    (c.as_slice.ensures.value ∙ c.self.invariant.declared) c.unknown_externals-external.ensures
    in
    let triggers : IsNextOf c.args.after (OfCause Unknown (IsUnknownTrigger tree)) trigger =
    moved (λ (n : Name → Option ℕ) (ts : List TaskDeclaration).
    IsNextOf c.args.after (OfCause Unknown (λ place. SomeOf (IsUnknownTriggerOf n place) ts)) trigger)
    (kept_under lower inside.global_numbers) (global_number tree) c.tasks_of.result.now (task_declarations tree) globals
    c.tasks_of.ensures c.unknown_triggers-trigger.ensures
    in
    let of_tasks : IsNextOf c.args.after (OfCause Unknown (IsUnknownTask tree)) task =
    moved (λ (n : Name → Option ℕ) (is : List InstanceDeclaration).
    IsNextOf c.args.after (OfCause Unknown (λ place. SomeOf (IsUnknownTaskOf n place) is)) task)
    (kept_under lower inside.task_numbers) (task_number tree) c.instances_of-instances.result.now
    (instance_declarations tree) tasks c.instances_of-instances.ensures c.unknown_tasks-task.ensures
    in
    let of_programs : IsNextOf c.args.after (OfCause Unknown (IsUnknownProgram tree)) program =
    moved (λ (n : Name → Option ℕ) (is : List InstanceDeclaration).
    IsNextOf c.args.after (OfCause Unknown (λ place. SomeOf (λ i. IsUnknownName n place i.program) is)) program)
    (kept_under lower inside.program_numbers) (program_number tree) c.instances_of-instances.result.now
    (instance_declarations tree) programs c.instances_of-instances.ensures c.unknown_programs-program.ensures
    in
    rw (c.lesser_of-3.ensures, c.lesser_of-2.ensures, c.lesser_of.ensures)
    (subst (λ (t : Tree). IsNextOf c.args.after (OfCause Unknown (IsUnknownNamed t))
    (lesser_of_two external (lesser_of_two trigger (lesser_of_two task program)))) c.self.view_is
    (either_next c.args.after Unknown (IsUnknownExternal tree)
    (λ at. IsUnknownTrigger tree at ⊎ IsUnknownTask tree at ⊎ IsUnknownProgram tree at) external
    (lesser_of_two trigger (lesser_of_two task program)) externals
    (either_next c.args.after Unknown (IsUnknownTrigger tree) (λ at. IsUnknownTask tree at ⊎ IsUnknownProgram tree at)
    trigger
    (lesser_of_two task program) triggers
    (either_next c.args.after Unknown (IsUnknownTask tree) (IsUnknownProgram tree) task program of_tasks of_programs))))
