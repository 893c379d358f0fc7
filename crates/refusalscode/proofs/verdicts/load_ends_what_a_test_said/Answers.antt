use Rattle.refusalscode.specs.Codes.{loaded_after_a_test}
use Rattle.refusalscode.proofs.Unsafe.{not_accepted}
use Rattle.refusalscode.proofs.UnsafeCodes.{loaded_wrong}
use Rattle.refusalscode.proofs.verdicts.load_ends_what_a_test_said.Goals as goal

pub returns : goal.returns
returns c = not_accepted loaded_after_a_test c.args.code c.is_accepted.result c.requires c.is_accepted.ensures.safe loaded_wrong
