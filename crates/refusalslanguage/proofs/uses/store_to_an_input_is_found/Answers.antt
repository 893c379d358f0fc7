use Rattle.std.proofs.Common.{◌≡◌, ℕ, None, Some}
use Rattle.ildeclared.specs.declared.fault.NameCause.{NameCause}
use Rattle.ildeclared.specs.declared.fault.NameCause.TheVariants.{WritesInput}
use Rattle.ildeclared.specs.declared.found.Found.{Found}
use Rattle.ildeclared.specs.Faults.{IsNextOf}
use Rattle.ildeclared.proofs.FoundOrder.{first_next}
use Rattle.ilscope.proofs.OneFault.{one_least}
use Rattle.ilscope.specs.UseFaults.{IsFaultOfUses}
use Rattle.refusalslanguage.proofs.Results.{if_ok}
use Rattle.refusalslanguage.proofs.uses.store_to_an_input_is_found.Goals as goal

pub returns : goal.returns
returns c =
    let faults : ℕ → NameCause → Type 0 = IsFaultOfUses c.args.scope.now.tree in
    let fault : Found = record { at = c.args.place; cause = WritesInput } in
    if_ok (IsNextOf None faults) (λ found. found ≡ Some fault) c.fault_at_uses.result c.fault_at_uses.ensures
    (λ found next. one_least faults found (Some fault) (first_next faults found next) c.requires)
