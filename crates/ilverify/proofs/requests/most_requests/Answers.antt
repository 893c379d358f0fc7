use Rattle.ilverify.proofs.requests.most_requests.Goals as goal

pub most_before-requires : goal.most_before-requires
most_before-requires c = c.in_ok-good.ensures.0 c.if-not-good.false

pub greatest_of-requires-clause-good : goal.greatest_of-requires-clause-good
greatest_of-requires-clause-good c = c.in_ok-good.ensures.0 c.if-not-good.false
