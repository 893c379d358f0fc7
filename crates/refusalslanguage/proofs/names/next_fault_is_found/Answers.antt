use Rattle.std.proofs.Common.{◌≡◌, ℕ, Some}
use Rattle.ildeclared.specs.Faults.{Beyond, IsLeastOf}
use Rattle.ildeclared.specs.declared.fault.NameCause.{NameCause}
use Rattle.ilscope.proofs.OneFault.{one_least}
use Rattle.ilsyms.specs.Faults.{IsFault}
use Rattle.refusalslanguage.proofs.Results.{if_ok}
use Rattle.refusalslanguage.proofs.names.next_fault_is_found.Goals as goal

pub returns : goal.returns
returns c =
    let scope = c.args.scope.now in
    let faults : ℕ → NameCause → Type 0 = Beyond (Some c.args.last) (IsFault scope.tree scope.wiring) in
    if_ok (IsLeastOf faults) (λ found. found ≡ Some c.args.next) c.next_fault.result c.next_fault.ensures
    (λ found next. one_least faults found (Some c.args.next) next c.requires)
