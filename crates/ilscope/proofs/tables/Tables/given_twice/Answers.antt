use Rattle.std.proofs.Common.{◌≡◌, ◌∙◌, ap, ℕ, List, map, subst}
use Rattle.ilsource.specs.Names.{folded, text_of}
use Rattle.ilsource.specs.SourceTrees.{Tree}
use Rattle.ilsource.specs.declared.address.DirectAddress.{DirectAddress}
use Rattle.ilsource.specs.declared.configuration.InstanceDeclaration.{InstanceDeclaration}
use Rattle.ilsource.specs.declared.name.Name.{Name}
use Rattle.ildeclared.specs.Faults.{IsAddressTwice, IsNextOf, OfCause}
use Rattle.ildeclared.specs.declared.fault.NameCause.TheVariants.{Twice}
use Rattle.ildeclared.proofs.Least.{either_next}
use Rattle.ilscope.specs.Configured.{addresses_of, instance_declarations}
use Rattle.ilscope.specs.Faults.{IsTwiceIn}
use Rattle.ilscope.proofs.FilledTables.{spelled_is}
use Rattle.ilscope.proofs.LookedUp.{moved}
use Rattle.ilscope.proofs.tables.Tables.given_twice.Goals as goal

abbrev instance_names : Tree → List Name
instance_names tree = map (λ i. i.name) (instance_declarations tree)

pub returns : goal.returns
returns c =
    let inside = c.self.inside in
    let tree : Tree = inside.source.now in
    let lower : List ℕ = c.as_slice.result.now in
    let instance = c.in_ok-instance.instance in
    let address = c.in_ok-address.address in
    let spelled : text_of lower ≡ folded tree.text =
    spelled_is lower tree.text (c.as_slice.ensures.value ∙ c.self.invariant.text)
    in
    let names : c.as_slice-2.result.now ≡ instance_names tree =
    c.as_slice-2.ensures.value ∙ c.in_ok-names.ensures
    ∙ ap (λ (is : List InstanceDeclaration). map (λ i. i.name) is) c.instances_of.ensures
    in
    let instances : IsNextOf c.args.after (OfCause Twice (IsTwiceIn (folded tree.text) (instance_names tree)))
    instance =
    moved (λ (s : Name → List ℕ) (ns : List Name). IsNextOf c.args.after (OfCause Twice (IsTwiceIn s ns)) instance)
    (text_of lower) (folded tree.text) c.as_slice-2.result.now (instance_names tree) spelled names
    c.in_ok-instance.ensures.twice
    in
    let addresses : IsNextOf c.args.after (OfCause Twice (IsAddressTwice (addresses_of c.args.self.now))) address =
    subst (λ (all : List DirectAddress). IsNextOf c.args.after (OfCause Twice (IsAddressTwice all)) address)
    (c.as_slice-3.ensures.value ∙ c.in_ok-addresses.ensures) c.in_ok-address.ensures
    in
    rw c.lesser_of.ensures
    (either_next c.args.after Twice (IsTwiceIn (folded c.args.self.now.text) (instance_names c.args.self.now))
    (IsAddressTwice (addresses_of c.args.self.now)) instance address
    (subst (λ (t : Tree). IsNextOf c.args.after (OfCause Twice (IsTwiceIn (folded t.text) (instance_names t))) instance)
    c.self.view_is instances) addresses)
