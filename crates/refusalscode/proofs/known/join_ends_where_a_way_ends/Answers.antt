use Rattle.std.proofs.Common.{arith, pos, ◌≤ℤ◌}
use Rattle.std.proofs.lemmas.Int.{ints}
use Rattle.refusalscode.proofs.Joined.{join_ends_below}
use Rattle.refusalscode.proofs.known.join_ends_where_a_way_ends.Goals as goal

pub returns : goal.returns
returns c = join_ends_below _ _ c.join.result (λ low. omega (arith, ints)) (λ low. omega (arith, ints)) c.join.ensures.least
