use Rattle.refusalscode.proofs.WorkedBounds.{bound_of_branching}
use Rattle.refusalscode.proofs.bounds.bound_follows_the_longer_way.Goals as goal

pub returns : goal.returns
returns c = bound_of_branching c.args.verified.now.code c.bound.result c.requires c.bound.ensures.greatest
