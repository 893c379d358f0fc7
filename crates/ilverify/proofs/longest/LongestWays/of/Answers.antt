use Rattle.ilverify.proofs.longest.LongestWays.of.Goals as goal

pub good-requires : goal.good-requires
good-requires c = c.in_ok-good.ensures.0 c.if-not-good.false

pub returns : goal.returns
returns c = (c.in_ok-good-2.ensures, c.in_ok-good.ensures.0 c.if-not-good.false)
