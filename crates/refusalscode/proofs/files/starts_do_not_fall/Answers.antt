use Rattle.std.specs.List.Sorted.{IsNonDecreasing}
use Rattle.ilcodefile.specs.Files.{IsFileOf}
use Rattle.refusalscode.proofs.Results.{if_ok}
use Rattle.refusalscode.proofs.files.starts_do_not_fall.Goals as goal

pub returns : goal.returns
returns c =
    if_ok (IsFileOf c.args.bytes.now) (λ code. IsNonDecreasing code.starts) c.decode.result
    c.decode.ensures.found (λ code is. is.0.lawful.starts.ordered)
