use Rattle.std.proofs.Common.{Err, refl}
use Rattle.textanswers.proofs.BindingStops.{binding_stop}
use Rattle.textanswers.proofs.answers.binding_of.Goals as goal

pub returns-in-Err-clause-stop : goal.returns-in-Err-clause-stop
returns-in-Err-clause-stop c =
    let fault = c.in-Err.fault in
    let is = c.in-Err.ensures in
    rw c.in-Some.is
    (binding_stop c.in-Some.bytes.now (Err fault) fault c.from.result refl is.bad_line is.too_long is.memory
    c.from.ensures)
