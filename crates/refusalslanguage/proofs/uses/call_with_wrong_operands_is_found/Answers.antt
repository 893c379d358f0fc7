use Rattle.std.proofs.Common.{◌≡◌, ℕ, None, Some}
use Rattle.ildeclared.specs.declared.fault.NameCause.{NameCause}
use Rattle.ildeclared.specs.declared.fault.NameCause.TheVariants.{BadDeclaration}
use Rattle.ildeclared.specs.declared.found.Found.{Found}
use Rattle.ildeclared.specs.Faults.{IsNextOf, SomeOf}
use Rattle.ildeclared.proofs.FoundOrder.{first_next}
use Rattle.ilscope.proofs.OneFault.{one_least}
use Rattle.ilscope.specs.Declarations.{bodies_of}
use Rattle.ilscope.specs.UseFaults.{IsFaultOfBody}
use Rattle.refusalslanguage.proofs.Results.{if_ok}
use Rattle.refusalslanguage.proofs.uses.call_with_wrong_operands_is_found.Goals as goal

pub returns : goal.returns
returns c =
    let tree = c.args.scope.now.tree in
    let faults : ℕ → NameCause → Type 0 = λ at cause. SomeOf (λ p. IsFaultOfBody tree p at cause) (bodies_of tree) in
    let fault : Found = record { at = c.args.place; cause = BadDeclaration } in
    if_ok (IsNextOf None faults) (λ found. found ≡ Some fault) c.fault_of_lines.result c.fault_of_lines.ensures
    (λ found next. one_least faults found (Some fault) (first_next faults found next) c.requires)
