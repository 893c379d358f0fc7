use Rattle.std.proofs.Common.{is_some, ap}
use Rattle.refusalslanguage.proofs.uses.function_below_is_not_called.Goals as goal

pub function_called-requires : goal.function_called-requires
function_called-requires c = ap is_some c.requires.1

pub returns-in-Some : goal.returns-in-Some
returns-in-Some c =
    let found = c.in-Some.ensures c.requires.0 c.requires.1 in
    let none = c.requires.2 in
    absurd (cc)
