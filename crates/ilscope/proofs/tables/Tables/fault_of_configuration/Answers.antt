use Rattle.std.proofs.Common.{◌∙◌, ap, List, subst, ◌⊎◌}
use Rattle.ilsource.specs.SourceTrees.{Tree}
use Rattle.ilsource.specs.declared.configuration.InstanceDeclaration.{InstanceDeclaration}
use Rattle.ildeclared.specs.Faults.{IsNextOf, OfCause, SomeOf}
use Rattle.ildeclared.specs.Order.{lesser_of_two}
use Rattle.ildeclared.specs.declared.fault.NameCause.TheVariants.{Unknown, Twice, BadAddress, NoTask, BadDeclaration}
use Rattle.ildeclared.proofs.Least.{both_next}
use Rattle.ilscope.specs.Configured.{instance_declarations}
use Rattle.ilscope.specs.Faults.{HasNoTask, HasNoTaskAt, IsBadAddress, IsNoTrigger}
use Rattle.ilscope.specs.ScopeSteps.{IsBadInConfiguration, IsFaultInGlobals, IsFaultOfInput, IsTwiceInConfiguration}
use Rattle.ilscope.specs.ScopeSteps.{IsUnknownNamed}
use Rattle.ilscope.proofs.tables.Tables.fault_of_configuration.Goals as goal

pub returns : goal.returns
returns c =
    let tree : Tree = c.args.self.now in
    let globals = c.fault_in_globals.result in
    let unknown = c.unknown_name.result in
    let twice = c.in_ok-given_twice.field-0 in
    let bad = c.bad_declaration.result in
    let address = c.in_ok-bad_address.field-0 in
    let input = c.fault_of_input.result in
    let lacking = c.without_task-lacking.result in
    let Twices = OfCause Twice (IsTwiceInConfiguration tree) in
    let Bad = OfCause BadDeclaration (IsBadInConfiguration tree) in
    let Addresses = OfCause BadAddress (λ at. IsBadAddress tree c.args.binding.now at ⊎ IsNoTrigger tree at) in
    let Lacking = OfCause NoTask (HasNoTask tree) in
    let without : IsNextOf c.args.after Lacking lacking =
    subst (λ (is : List InstanceDeclaration). IsNextOf c.args.after
    (OfCause NoTask (λ place. SomeOf (HasNoTaskAt place) is))
    lacking) (c.instances_of.ensures ∙ ap (λ (t : Tree). instance_declarations t) c.self.view_is)
    c.without_task-lacking.ensures
    in
    rw (
      c.lesser_of-2.ensures,
      c.lesser_of-declared.ensures,
      c.lesser_of-rest.ensures,
      c.lesser_of-stated.ensures,
      c.lesser_of.ensures,
      c.lesser_of-located.ensures,
    )
    (both_next c.args.after _ _ (lesser_of_two globals unknown)
    (lesser_of_two (lesser_of_two twice bad) (lesser_of_two (lesser_of_two address input) lacking))
    (both_next c.args.after (IsFaultInGlobals tree) (OfCause Unknown (IsUnknownNamed tree)) globals unknown
    c.fault_in_globals.ensures c.unknown_name.ensures)
    (both_next c.args.after _ _ (lesser_of_two twice bad) (lesser_of_two (lesser_of_two address input) lacking)
    (both_next c.args.after Twices Bad twice bad c.in_ok-given_twice.ensures c.bad_declaration.ensures)
    (both_next c.args.after _ _ (lesser_of_two address input) lacking
    (both_next c.args.after Addresses (IsFaultOfInput tree) address input c.in_ok-bad_address.ensures
    c.fault_of_input.ensures)
    without)))
