use Rattle.std.proofs.Common.{arith}
use Rattle.refusalsbus.proofs.scenarios.no_line_has_number_0.Goals as goal

pub returns : goal.returns
returns c = λ reported.
    let counted = (c.parse.ensures.bad_line 0 reported).bad.counted in
    omega arith
