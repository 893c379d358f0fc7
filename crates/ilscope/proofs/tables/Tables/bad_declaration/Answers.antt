use Rattle.std.proofs.Common.{◌≡◌, ◌∙◌, ap, ℕ, List, subst, ◌⊎◌}
use Rattle.std.specs.Prelude.{Option, None, option_and_then, slice_get, unwrap_or}
use Rattle.iltypes.specs.declared.value.IlType.{IlType}
use Rattle.ilsource.specs.Configurations.{DeclaredGlobals}
use Rattle.ilsource.specs.SourceTrees.{Tree}
use Rattle.ilsource.specs.declared.configuration.TaskDeclaration.{TaskDeclaration}
use Rattle.ilsource.specs.declared.name.Name.{Name}
use Rattle.ildeclared.specs.DataTypes.{TypeNames}
use Rattle.ildeclared.specs.Faults.{IsBadlyLocatedIn, IsNextOf, OfCause, SomeOf}
use Rattle.ildeclared.specs.Kept.{kept_under, types_in}
use Rattle.ildeclared.specs.Order.{lesser_of_two}
use Rattle.ildeclared.specs.declared.fault.NameCause.TheVariants.{BadDeclaration}
use Rattle.ildeclared.specs.declared.global.DeclaredGlobal.{DeclaredGlobal}
use Rattle.ildeclared.proofs.Least.{either_next}
use Rattle.ilscope.specs.Configured.{declared_globals_of, global_number, globals_of, task_declarations, types_of_text}
use Rattle.ilscope.specs.Configured.{values_of_global}
use Rattle.ilscope.specs.Declarations.{DeclaredFunction, DeclaredProgram, declared_functions, declared_programs}
use Rattle.ilscope.specs.Faults.{IsBadFunction, IsBadTaskAt, IsBadlyLocated, IsOtherExternal, IsOtherExternalIn}
use Rattle.ilscope.specs.ScopeSteps.{IsBadInConfiguration}
use Rattle.ilscope.proofs.LookedUp.{moved, names_are}
use Rattle.ilscope.proofs.tables.Tables.bad_declaration.Goals as goal

-- the values by number, of what is found by name
abbrev values_by : (Name → Option ℕ) → List (Option IlType) → Name → Option IlType
values_by number types name = option_and_then (λ n. unwrap_or (slice_get types n) None) (number name)

pub returns : goal.returns
returns c =
    let inside = c.self.inside in
    let tree : Tree = inside.source.now in
    let lower : List ℕ = c.as_slice-lower.result.now in
    let external = c.other_externals-external.result in
    let located = c.badly_located-located.result in
    let task = c.bad_tasks-task.result in
    let function = c.bad_functions-function.result in
    let globals : kept_under lower inside.global_numbers ≡ global_number tree =
    names_are (λ (g : DeclaredGlobal). g.name) (globals_of tree) tree.text lower inside.global_numbers
    (c.as_slice-lower.ensures.value ∙ c.self.invariant.text) c.self.invariant.globals_numbered
    in
    let values : values_by (kept_under lower inside.global_numbers) c.as_slice.result.now ≡ values_of_global tree =
    ap (λ (n : Name → Option ℕ). values_by n c.as_slice.result.now) globals
    ∙ ap (λ (ts : List (Option IlType)). values_by (global_number tree) ts)
    (c.as_slice.ensures.value ∙ c.self.invariant.global_types)
    in
    let types : types_in lower inside.types ≡ types_of_text tree =
    ap (λ (l : List ℕ). types_in l inside.types) c.as_slice-lower.ensures.value ∙ c.self.invariant.meant
    in
    let externals : IsNextOf c.args.after (OfCause BadDeclaration (IsOtherExternal tree)) external =
    moved (λ (v : Name → Option IlType) (ps : List DeclaredProgram).
    IsNextOf c.args.after (OfCause BadDeclaration (λ place. SomeOf (IsOtherExternalIn v place) ps)) external)
    (values_by (kept_under lower inside.global_numbers) c.as_slice.result.now) (values_of_global tree)
    c.as_slice-2.result.now (declared_programs tree) values
    (c.as_slice-2.ensures.value ∙ c.self.invariant.declared) c.other_externals-external.ensures
    in
    let of_located : IsNextOf c.args.after (OfCause BadDeclaration (IsBadlyLocated tree)) located =
    moved (λ (t : TypeNames) (ds : List DeclaredGlobals).
    IsNextOf c.args.after (OfCause BadDeclaration (λ place. SomeOf (IsBadlyLocatedIn t place) ds)) located)
    (types_in lower inside.types) (types_of_text tree) c.declared_globals.result.now (declared_globals_of tree) types
    c.declared_globals.ensures c.badly_located-located.ensures
    in
    let tasks =
    subst (λ (ts : List TaskDeclaration). IsNextOf c.args.after
    (OfCause BadDeclaration (λ place. SomeOf (IsBadTaskAt place) ts))
    task) c.tasks_of.ensures c.bad_tasks-task.ensures
    in
    let functions : IsNextOf c.args.after (OfCause BadDeclaration
    (λ place. SomeOf (IsBadFunction place) (declared_functions tree)))
    function =
    subst (λ (fs : List DeclaredFunction). IsNextOf c.args.after
    (OfCause BadDeclaration (λ place. SomeOf (IsBadFunction place) fs))
    function) (c.as_slice-3.ensures.value ∙ c.self.invariant.functions_declared) c.bad_functions-function.ensures
    in
    rw (c.lesser_of-3.ensures, c.lesser_of-2.ensures, c.lesser_of.ensures)
    (subst (λ (t : Tree). IsNextOf c.args.after (OfCause BadDeclaration (IsBadInConfiguration t))
    (lesser_of_two external (lesser_of_two located (lesser_of_two task function)))) c.self.view_is
    (either_next c.args.after BadDeclaration (IsOtherExternal tree)
    (λ at. IsBadlyLocated tree at ⊎ (SomeOf (IsBadTaskAt at) (task_declarations tree)
    ⊎ SomeOf (IsBadFunction at) (declared_functions tree))) external
    (lesser_of_two located (lesser_of_two task function)) externals
    (either_next c.args.after BadDeclaration (IsBadlyLocated tree)
    (λ at. SomeOf (IsBadTaskAt at) (task_declarations tree) ⊎ SomeOf (IsBadFunction at) (declared_functions tree))
    located (lesser_of_two task function) of_located
    (either_next c.args.after BadDeclaration (λ at. SomeOf (IsBadTaskAt at) (task_declarations tree))
    (λ at. SomeOf (IsBadFunction at) (declared_functions tree)) task function tasks functions))))
