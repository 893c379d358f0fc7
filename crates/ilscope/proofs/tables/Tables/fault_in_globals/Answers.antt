use Rattle.std.proofs.Common.{◌≡◌, ◌∙◌, ap, List, ℕ, subst}
use Rattle.ilsource.specs.Configurations.{DeclaredGlobals}
use Rattle.ilsource.specs.SourceTrees.{Tree}
use Rattle.ildeclared.specs.DataTypes.{TypeNames}
use Rattle.ildeclared.specs.Faults.{IsNextOf, SomeOf, IsFaultIn}
use Rattle.ildeclared.specs.Globals.{as_variables}
use Rattle.ildeclared.specs.Kept.{types_in}
use Rattle.ilscope.specs.Configured.{declared_globals_of, types_of_text}
use Rattle.ilscope.proofs.tables.Tables.fault_in_globals.Goals as goal

pub returns : goal.returns
returns c =
    let inside = c.self.inside in
    let types_path : types_in c.deref.result.now inside.types ≡ types_of_text c.args.self.now =
    ap (λ (l : List ℕ). types_in l inside.types) c.deref.ensures.value
    ∙ c.self.invariant.meant
    ∙ ap (λ (t : Tree). types_of_text t) c.self.view_is
    in
    let globals_path : c.declared_globals.result.now ≡ declared_globals_of c.args.self.now =
    c.declared_globals.ensures ∙ ap (λ (t : Tree). declared_globals_of t) c.self.view_is
    in
    subst
    (λ (t : TypeNames). IsNextOf c.args.after (λ place cause. SomeOf (λ d. IsFaultIn t (as_variables d) place cause)
    (declared_globals_of c.args.self.now)) c.fault_of_globals.result)
    types_path
    (subst (λ (ds : List DeclaredGlobals). IsNextOf c.args.after (λ place cause. SomeOf (λ d. IsFaultIn
    (types_in c.deref.result.now inside.types) (as_variables d) place cause) ds) c.fault_of_globals.result)
    globals_path c.fault_of_globals.ensures)
