use Rattle.std.proofs.Common.{◌≡◌, Err, rules}
use Rattle.wordlines.proofs.LineFiles.{too_long_passed}
use Rattle.wordlines.proofs.binding.binding_of.Goals as goal

pub returns-in_err-said-clause-too_long : goal.returns-in_err-said-clause-too_long
returns-in_err-said-clause-too_long c =
    let fault = c.in_err-said.field-0.0 in
    let read : c.read_lines.result ≡ Err fault = cc in
    let passed : c.from_residual.result ≡ Err fault = search rules in
    too_long_passed c.args.bytes.now c.read_lines.result c.from_residual.result fault read passed
    c.read_lines.ensures.too_long
