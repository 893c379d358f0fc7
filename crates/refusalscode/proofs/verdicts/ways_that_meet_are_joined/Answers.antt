use Rattle.refusalscode.specs.Codes.{meeting}
use Rattle.refusalscode.proofs.Unsafe.{not_accepted}
use Rattle.refusalscode.proofs.UnsafeCodes.{meeting_wrong}
use Rattle.refusalscode.proofs.verdicts.ways_that_meet_are_joined.Goals as goal

pub returns : goal.returns
returns c = not_accepted meeting c.args.code c.is_accepted.result c.requires c.is_accepted.ensures.safe meeting_wrong
