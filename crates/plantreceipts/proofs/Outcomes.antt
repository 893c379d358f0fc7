-- What is so of a call's result because the call failed.
use Rattle.std.proofs.Common.{Result, OnOk, IsErr}
use Rattle.std.proofs.lemmas.Result.{IfOk-from_err}

pub on_ok-from_err : {A E : Type 0} (r : Result A E) (P : Type 0) → IsErr r → OnOk r P
on_ok-from_err r P failed = IfOk-from_err r (λ _. P) failed
