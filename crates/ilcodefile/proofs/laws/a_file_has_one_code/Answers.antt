use Rattle.ilcodefile.proofs.FirstFaults.{no_fault, one_fault}
use Rattle.ilcodefile.proofs.OneCode.{one_code}
use Rattle.ilcodefile.proofs.laws.a_file_has_one_code.Goals as goal

pub returns : goal.returns
returns c =
    record { one = one_code; no_fault = λ bytes cause is first. no_fault bytes cause first is; one_fault = one_fault }
