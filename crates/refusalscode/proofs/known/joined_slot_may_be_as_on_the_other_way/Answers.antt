use Rattle.refusalscode.proofs.Joined.{holds_the_wider}
use Rattle.refusalscode.proofs.known.joined_slot_may_be_as_on_the_other_way.Goals as goal

pub returns : goal.returns
returns c =
    holds_the_wider c.args.one.now c.args.other.now c.join.result c.requires.one c.requires.other c.join.ensures
