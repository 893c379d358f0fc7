use Rattle.refusalscode.proofs.WorkedBounds.{bound_of_straight}
use Rattle.refusalscode.proofs.bounds.bound_of_two_words_is_2.Goals as goal

pub returns : goal.returns
returns c = bound_of_straight c.args.verified.now.code c.bound.result c.requires c.bound.ensures.greatest
