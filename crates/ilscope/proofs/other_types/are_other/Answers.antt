use Rattle.ilscope.proofs.SameTypes.{types_differ}
use Rattle.ilscope.proofs.other_types.are_other.Goals as goal

pub returns-in-Some-Some : goal.returns-in-Some-Some
returns-in-Some-Some c =
    rw (c.in-Some-Some.is-0, c.in-Some-Some.is-1) (types_differ c.in-Some-Some.one c.in-Some-Some.other c.ne.result
    c.ne.ensures)
