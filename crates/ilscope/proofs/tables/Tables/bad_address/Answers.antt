use Rattle.std.proofs.Common.{◌≡◌, ◌∙◌, ap, ℕ, List, subst}
use Rattle.std.specs.Prelude.{Option, option_and_then, slice_get}
use Rattle.ilsource.specs.SourceTrees.{Tree}
use Rattle.ilsource.specs.declared.address.DirectAddress.{DirectAddress}
use Rattle.ilsource.specs.declared.configuration.TaskDeclaration.{TaskDeclaration}
use Rattle.ilsource.specs.declared.name.Name.{Name}
use Rattle.ildeclared.specs.Faults.{IsBadAddressAt, IsNextOf, OfCause, SomeOf}
use Rattle.ildeclared.specs.Kept.{kept_under}
use Rattle.ildeclared.specs.declared.fault.NameCause.TheVariants.{BadAddress}
use Rattle.ildeclared.specs.declared.global.DeclaredGlobal.{DeclaredGlobal}
use Rattle.ildeclared.proofs.Least.{either_next}
use Rattle.ilscope.specs.Configured.{global_named, global_number, globals_of, task_declarations}
use Rattle.ilscope.specs.Faults.{IsBadAddress, IsNoTrigger, IsNoTriggerOf}
use Rattle.ilscope.proofs.LookedUp.{moved, names_are}
use Rattle.ilscope.proofs.tables.Tables.bad_address.Goals as goal

-- what is found by number, of what is found by name
abbrev named_by : (Name → Option ℕ) → List DeclaredGlobal → Name → Option DeclaredGlobal
named_by number globals name = option_and_then (slice_get globals) (number name)

pub returns : goal.returns
returns c =
    let inside = c.self.inside in
    let tree : Tree = inside.source.now in
    let wiring = c.args.binding.now in
    let lower : List ℕ = c.as_slice-2.result.now in
    let address = c.bad_addresses-address.result in
    let trigger = c.no_triggers-trigger.result in
    let numbers : kept_under lower inside.global_numbers ≡ global_number tree =
    names_are (λ (g : DeclaredGlobal). g.name) (globals_of tree) tree.text lower inside.global_numbers
    (c.as_slice-2.ensures.value ∙ c.self.invariant.text) c.self.invariant.globals_numbered
    in
    let named : named_by (kept_under lower inside.global_numbers) c.as_slice-3.result.now ≡ global_named tree =
    ap (λ (n : Name → Option ℕ). named_by n c.as_slice-3.result.now) numbers
    ∙ ap (λ (gs : List DeclaredGlobal). named_by (global_number tree) gs)
    (c.as_slice-3.ensures.value ∙ c.self.invariant.global_variables)
    in
    let addresses : IsNextOf c.args.after (OfCause BadAddress (IsBadAddress c.args.self.now wiring)) address =
    subst (λ (all : List DirectAddress). IsNextOf c.args.after
    (OfCause BadAddress (λ place. SomeOf (IsBadAddressAt wiring place) all))
    address) (c.as_slice.ensures.value ∙ c.in_ok-addresses.ensures) c.bad_addresses-address.ensures
    in
    let triggers : IsNextOf c.args.after (OfCause BadAddress (IsNoTrigger tree)) trigger =
    moved (λ (n : Name → Option DeclaredGlobal) (ts : List TaskDeclaration).
    IsNextOf c.args.after (OfCause BadAddress (λ place. SomeOf (IsNoTriggerOf n place) ts)) trigger)
    (named_by (kept_under lower inside.global_numbers) c.as_slice-3.result.now) (global_named tree)
    c.tasks_of.result.now (task_declarations tree) named c.tasks_of.ensures c.no_triggers-trigger.ensures
    in
    rw c.lesser_of.ensures
    (either_next c.args.after BadAddress (IsBadAddress c.args.self.now wiring) (IsNoTrigger c.args.self.now) address
    trigger
    addresses
    (subst (λ (t : Tree). IsNextOf c.args.after (OfCause BadAddress (IsNoTrigger t)) trigger) c.self.view_is triggers))
