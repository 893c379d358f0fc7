use Rattle.refusalscode.specs.Codes.{bad_function}
use Rattle.refusalscode.proofs.Unsafe.{not_accepted}
use Rattle.refusalscode.proofs.UnsafeCodes.{function_wrong}
use Rattle.refusalscode.proofs.verdicts.words_of_functions_are_judged.Goals as goal

pub returns : goal.returns
returns c = not_accepted bad_function c.args.code c.is_accepted.result c.requires c.is_accepted.ensures.safe function_wrong
