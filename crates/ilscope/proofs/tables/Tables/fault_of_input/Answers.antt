use Rattle.std.proofs.Common.{◌≡◌, ◌∙◌, ap, ℕ, List, subst}
use Rattle.ilsource.specs.Configurations.{DeclaredGlobals}
use Rattle.ilsource.specs.SourceTrees.{Tree}
use Rattle.ildeclared.specs.DataTypes.{TypeNames}
use Rattle.ildeclared.specs.Faults.{IsInputGivenIn, IsInputTooSmallIn, IsNextOf, OfCause, SomeOf}
use Rattle.ildeclared.specs.Kept.{types_in}
use Rattle.ildeclared.specs.Order.{lesser_of_two}
use Rattle.ildeclared.specs.declared.fault.NameCause.TheVariants.{InputRangeTooSmall, WritesInput}
use Rattle.ildeclared.proofs.Least.{both_next}
use Rattle.ilscope.specs.Configured.{declared_globals_of, types_of_text}
use Rattle.ilscope.specs.Faults.{IsInputGiven, IsInputTooSmall}
use Rattle.ilscope.specs.ScopeSteps.{IsFaultOfInput}
use Rattle.ilscope.proofs.LookedUp.{moved}
use Rattle.ilscope.proofs.tables.Tables.fault_of_input.Goals as goal

pub returns : goal.returns
returns c =
    let inside = c.self.inside in
    let tree : Tree = inside.source.now in
    let lower : List ℕ = c.as_slice.result.now in
    let small = c.inputs_too_small-small.result in
    let given = c.inputs_given.result in
    let types : types_in lower inside.types ≡ types_of_text tree =
    ap (λ (l : List ℕ). types_in l inside.types) c.as_slice.ensures.value ∙ c.self.invariant.meant
    in
    let of_small : IsNextOf c.args.after (OfCause InputRangeTooSmall (IsInputTooSmall tree)) small =
    moved (λ (t : TypeNames) (ds : List DeclaredGlobals).
    IsNextOf c.args.after (OfCause InputRangeTooSmall (λ place. SomeOf (IsInputTooSmallIn t place) ds)) small)
    (types_in lower inside.types) (types_of_text tree) c.declared_globals-globals.result.now (declared_globals_of tree)
    types c.declared_globals-globals.ensures c.inputs_too_small-small.ensures
    in
    let of_given : IsNextOf c.args.after (OfCause WritesInput (IsInputGiven tree)) given =
    subst (λ (ds : List DeclaredGlobals). IsNextOf c.args.after
    (OfCause WritesInput (λ place. SomeOf (IsInputGivenIn place) ds))
    given) c.declared_globals-globals.ensures c.inputs_given.ensures
    in
    rw c.lesser_of.ensures
    (subst (λ (t : Tree). IsNextOf c.args.after (IsFaultOfInput t) (lesser_of_two small given)) c.self.view_is
    (both_next c.args.after (OfCause InputRangeTooSmall (IsInputTooSmall tree))
    (OfCause WritesInput (IsInputGiven tree)) small
    given
    of_small of_given))
